-- What is handed over for an accepted job: its record.
use Rattle.std.specs.Prelude.{◌-◌, ◌≤◌, ◌≡◌, List, ◌++◌, length, take, replicate}
use Rattle.common.specs.Limits.{max_nodes, max_outputs}
use Rattle.common.specs.Lists.{padded}
use Rattle.common.specs.Outcome.{Outcome}
use Rattle.diagram.specs.declared.Node.{Node}
use Rattle.diagram.specs.Diagram.{Diagram, no_node}
use Rattle.diagram.specs.Wires.{row_count, column_count}
use Rattle.jobs.specs.declared.Job.{Job}
use Rattle.jobs.specs.Job.{table}

-- the record of a diagram: V, the label of terminal 1, N, K, and the ids that the outputs name, zeros past them; R and C
unfoldable pub job_of : Diagram → Job
job_of d =
    record {
      switches = d.switches;
      one = d.one;
      nodes = length d.nodes;
      outputs = length d.outs;
      outs = padded max_outputs d.outs;
      rows = row_count d;
      columns = column_count d;
    }

-- the first N entries of a lent table are the nodes that the table of an accepted job begins with; zeros follow them there
pub record Filled (o : Outcome Diagram) (nodes : List Node) (job : Job) : Type 0 where
  pub few : job.nodes ≤ max_nodes
  pub front : table o ≡ take job.nodes nodes ++ replicate (max_nodes - job.nodes) no_node
