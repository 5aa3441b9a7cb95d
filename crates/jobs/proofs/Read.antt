-- The reader's answer: what it hands over once the reading has come to an end, and what it leaves in the lent table.
use Prim.Native.Nat.{ℕ, ◌+◌, ◌-◌, ◌≤◌}
use mathlib.Core.Path.{◌≡◌, refl, sym, ap, ◌∙◌}
use mathlib.Core.Bool.{true, false}
use mathlib.Core.List.{List, [], ◌++◌}
use native.Mathlib.Omega.{arith}
use lib.ListN.{length, take, drop, replicate, length-append, length-replicate}
use lib.Seq.{take_at, length-take-le}
use Rattle.common.specs.Limits.{max_nodes, max_outputs}
use Rattle.common.specs.Lists.{zeros, padded}
use Rattle.figures.specs.Line.{lines_of}
use Rattle.std.proofs.lemmas.List.{drop-replicate}
use Rattle.std.specs.Prelude.{Result, Ok, Err, IsErr}
use Rattle.std.specs.Result.{IsErrAnd}
use Rattle.common.specs.declared.Fault.TheVariants as fault
use Rattle.common.specs.declared.Refusal.{Refusal}
use Rattle.common.specs.Fault.{handed, fault_of, faults, Goes}
use Rattle.forms.specs.Due.{last_line}
use Rattle.forms.proofs.LastLine.{last_goes}
use Rattle.common.specs.Outcome.{Outcome, done, refused, ◌then◌, lowest, unless, value_of}
use Rattle.common.proofs.Faults.{handed_ok, handed_on}
use Rattle.diagram.specs.declared.Node.{Node}
use Rattle.diagram.specs.declared.Diagram.{Diagram as Holder}
use Rattle.diagram.specs.declared.Dimensions.{Dimensions}
use Rattle.diagram.specs.Diagram.{Diagram, bare, no_node}
use Rattle.diagram.specs.Held.{dimensions_of}
use Rattle.diagram.specs.Wires.{exceeds, too_large}
use Rattle.jobs.specs.declared.Job.{Job}
use Rattle.jobs.specs.Answer.{job_of, Filled}
use Rattle.jobs.specs.Job.{size_tested, accepted, table}
use Rattle.jobs.specs.Reading.{ReadText, read_end, read_outs, read_nodes, read_text}
use Rattle.jobs.specs.Steps.{HeadRanges, given}
use Rattle.jobs.proofs.Accepted.{Accepted, accepted_job}
use Rattle.jobs.proofs.Steps.{passed_on}

-- a refusal of the reading is the reader's
module _ (s : List ℕ) (o : Outcome ReadText) (is : read_text s ≡ o) where
  pub read_refused :
      (r : Result Job Refusal) (e : Refusal)
      → IsErr r × IsErrAnd r (λ x. x ≡ e)
      → handed (λ a. a) o ≡ Err e
      → r ≡ handed job_of (accepted s)
  unfolding accepted size_tested
  read_refused r e h q = passed_on r e h ∙ sym (handed_on (λ a. a) job_of (read_text s) _ e (ap (handed (λ a. a)) is ∙ q))

-- ---- the lines in turn
-- the last line
pub end_goes :
    (d : Diagram) (n : ℕ) (s : List ℕ) (r : Result (Unit {0}) Refusal)
    → r ≡ handed (λ o. o) (last_line n (lines_of s))
    → Goes (read_end d n (lines_of s)) r (λ o. done (record { diagram = d; last = n }))
unfolding read_end
end_goes d n s r e = last_goes (record { diagram = d; last = n }) n (lines_of s) r e

-- the first two lines: V, N, K, and the label of terminal 1. The nodes are to be read into the front of a lent table.
module _
    (s : List ℕ) (v n k one : ℕ) (r1 : List ℕ) (first : read_text s ≡ read_nodes n k (bare v one) 3 (lines_of r1)) (sized : HeadRanges v n k)
    (old : List Node) (entries : length old ≡ max_nodes)
  where
    abbrev N : ℕ
    N = length (take n old)

    N_is : N ≡ n
    N_is = length-take-le n old (omega (arith, sized.nodes_most))

    pub at_nodes : read_text s ≡ read_nodes N k (bare v one) 3 (lines_of r1)
    at_nodes = first ∙ ap (λ (m : ℕ). read_nodes m k (bare v one) 3 (lines_of r1)) (sym N_is)

    -- the nodes. The outputs are to be read into the front of an array of zeros.
    module _
        (ns : List Node) (filled : length ns ≡ N) (r2 : List ℕ)
        (second : read_nodes N k (bare v one) 3 (lines_of r1) ≡ read_outs k (given v one ns []) (3 + N) (lines_of r2))
        (zs : List ℕ) (clear : zs ≡ zeros max_outputs)
      where
        -- the front of the table after the nodes
        abbrev front : List Node
        front = take n (ns ++ drop n old)

        front_is : front ≡ ns
        front_is = take_at ns (drop n old) n (filled ∙ N_is)

        abbrev K : ℕ
        K = length (take k zs)

        K_is : K ≡ k
        K_is = length-take-le k zs (rw (clear, length-replicate {A = ℕ} max_outputs 0) sized.outputs_most)

        pub at_outs : read_text s ≡ read_outs K (given v one front []) (3 + n) (lines_of r2)
        at_outs = at_nodes ∙ second ∙ rw (K_is, front_is, N_is)

        -- the outputs
        module _
            (os : List ℕ) (named : length os ≡ K) (r3 : List ℕ)
            (third : read_outs K (given v one front []) (3 + n) (lines_of r2) ≡ read_end (given v one front os) (3 + n + K) (lines_of r3))
          where
            abbrev d : Diagram
            d = given v one front os

            abbrev last : ℕ
            last = 3 + n + k

            pub at_end : read_text s ≡ read_end d last (lines_of r3)
            at_end = at_outs ∙ third ∙ rw K_is

            -- the line `(end)`, then ground 11
            module _
                (fourth : (e : Diagram) → read_end e last (lines_of r3) ≡ done (record { diagram = e; last = last }))
                (size : Dimensions) (counted : size ≡ dimensions_of (given v one front (take k (os ++ drop k zs))))
              where
                size_is : size ≡ dimensions_of d
                size_is = counted ∙ ap (λ (l : List ℕ). dimensions_of (given v one front l)) (take_at os (drop k zs) k (named ∙ K_is))

                large_is : exceeds size.rows size.columns ≡ too_large d
                unfolding too_large dimensions_of
                large_is = rw size_is

                read_whole : accepted s ≡ size_tested (done (record { diagram = d; last = last }))
                unfolding accepted
                read_whole = ap size_tested (at_end ∙ fourth d)

                pub read_large : exceeds size.rows size.columns ≡ true → Err (record { fault = fault.TooLarge; line = last }) ≡ handed job_of (accepted s)
                unfolding size_tested ◌then◌ lowest unless handed fault_of faults
                read_large e = let met : too_large d ≡ true = sym large_is ∙ e in rw read_whole (rw met)

                module _ (small : exceeds size.rows size.columns ≡ false) where
                  read_accepted : accepted s ≡ done d
                  unfolding size_tested ◌then◌ lowest unless
                  read_accepted = let unmet : too_large d ≡ false = sym large_is ∙ small in read_whole ∙ rw unmet

                  pub read_job_is :
                      Ok (record { switches = v; one = one; nodes = n; outputs = k; outs = os ++ drop k zs; rows = size.rows; columns = size.columns })
                      ≡ handed job_of (accepted s)
                  unfolding handed job_of dimensions_of padded
                  read_job_is =
                      let m : length front ≡ n = ap length front_is ∙ filled ∙ N_is in
                      let o : length os ≡ k = named ∙ K_is in
                      let z : drop k zs ≡ zeros (max_outputs - k) = ap (drop k) clear ∙ drop-replicate k max_outputs 0 in
                      rw read_accepted (rw (m, o, z, size_is))

                  pub read_filled : (job : Job) → job.nodes ≡ n → Filled (accepted s) (ns ++ drop n old) job
                  unfolding table value_of
                  read_filled job e =
                      record { few = rw e sized.nodes_most; front = rw (read_accepted, e) (rw (front_is, filled, N_is)) }

-- ---- the lent table
none_left : (e : Refusal) (o : Outcome Diagram) → Err e ≡ handed job_of o → table o ≡ replicate max_nodes no_node
unfolding handed table value_of
none_left e (done d) h = absurd cc
none_left e (refused k l) h = refl

module _ (o : Outcome Diagram) (ns : List Node) (long : length ns ≡ max_nodes) (from : ℕ) where
  pub table_cleared : (job : Job) → Filled o ns job → from ≡ job.nodes → take from ns ++ replicate (length ns - from) no_node ≡ table o
  table_cleared job h e = rw (e, long) (sym h.front)

  pub table_none : (e : Refusal) → Err e ≡ handed job_of o → from ≡ 0 → take from ns ++ replicate (length ns - from) no_node ≡ table o
  unfolding max_nodes
  table_none e h z = rw (z, long) (sym (none_left e o h))

-- what a caller of the reader knows of a job that was handed over, and of the lent table: its diagram, and the facts that grounds 1 to 11 leave
pub record JobGiven (s : List ℕ) (job : Job) (ns : List Node) : Type 0 where
  pub diagram : Diagram
  pub accepts : accepted s ≡ done diagram
  pub is : job ≡ job_of diagram
  pub front : take job.nodes ns ≡ diagram.nodes
  pub named : take job.outputs job.outs ≡ diagram.outs
  pub entries : job.nodes ≤ length ns
  pub nodes_few : job.nodes ≤ max_nodes
  pub outs_few : job.outputs ≤ max_outputs
  pub accepted_facts : Accepted diagram

-- the diagram that a job gives with its nodes
abbrev pub Drawn : Holder → Job → List Node → Type 0
Drawn h job ns = (h.switches ≡ job.switches) × (h.one ≡ job.one) × (h.nodes.now ≡ take job.nodes ns)

given_of : (s : List ℕ) (d : Diagram) (job : Job) (ns : List Node) → accepted s ≡ done d → job ≡ job_of d → ns ≡ table (accepted s) → JobGiven s job ns
unfolding job_of padded table value_of
given_of s d job ns accepts is filled =
    let a = accepted_job s d accepts in
    let nodes = d.nodes ++ replicate (max_nodes - length d.nodes) no_node in
    let long : length ns ≡ length nodes = ap length (filled ∙ rw accepts) in
    let all : length nodes ≡ max_nodes = simp (length-append, length-replicate) (omega (arith, a.sizes.nodes_most)) in
    record {
      diagram = d;
      accepts = accepts;
      is = is;
      front = rw (is, filled, accepts) (take_at d.nodes _ (length d.nodes) refl);
      named = rw is (take_at d.outs _ (length d.outs) refl);
      entries = rw is (omega (arith, a.sizes.nodes_most, long, all));
      nodes_few = rw is a.sizes.nodes_most;
      outs_few = rw is a.sizes.outs_most;
      accepted_facts = a;
    }

pub job_given : (s : List ℕ) (job : Job) (ns : List Node) → Ok job ≡ handed job_of (accepted s) → ns ≡ table (accepted s) → JobGiven s job ns
job_given s job ns answer filled = let found = handed_ok job_of (accepted s) job (sym answer) in given_of s found.0 job ns found.1 found.2 filled
