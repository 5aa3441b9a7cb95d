-- A step of the reading, and the steps of equal lines in turn.
use Prim.Native.Nat.{ℕ, suc, ◌+◌, ◌-◌, ◌≤◌, ◌<◌}
use mathlib.Core.Path.{◌≡◌, ap, ◌∙◌}
use mathlib.Core.List.{List, [], ◌∷◌, ◌++◌}
use native.Mathlib.Omega.{arith}
use lib.ListN.{length, set, take, length-replicate, length-set}
use lib.Dec.{eqb, ltb}
use borrow.Author.Tests.{ltb-true, eqb-true, not-false}
use mathlib.Core.Bool.{◌&&◌}
use lib.Seq.{take-suc-set}
use Rattle.std.proofs.lemmas.List.{take_all}
use Rattle.std.specs.Prelude.{Result, Ok, Err, IsErr, IfErr, MatchResult}
use Rattle.std.specs.Result.{IsErrAnd}
use Rattle.common.specs.declared.Fault.{Fault}
use Rattle.common.specs.declared.Refusal.{Refusal}
use Rattle.common.specs.Fault.{fault_of, faults, tested, handed, Goes}
use Rattle.common.specs.Outcome.{Outcome, ◌then◌, unless}
use Rattle.common.proofs.Lists.{and_left, and_right}
use Rattle.common.proofs.Outcome.{not_met, others, unless_none}
use Rattle.diagram.specs.declared.Node.{Node}
use Rattle.diagram.specs.Diagram.{Diagram, id_count, bare, with_node, with_out}
use Rattle.diagram.specs.Faults.{node_fault}
use Rattle.common.proofs.Faults.{handed_failed, tested_passed}
use Rattle.figures.specs.Line.{Lines, lines_of}
use Rattle.diagram.specs.declared.Diagram.{Diagram as Holder}
use Rattle.diagram.specs.declared.seen.Seen.{Seen}
use Rattle.diagram.specs.Held.{held}
use Rattle.diagram.specs.Seen.{Marked, max_seen, no_marks, with_mark}
use Rattle.diagram.proofs.SeenLaws.{marked_more}
use Rattle.jobs.specs.Steps.{given, HeadRanges}
use Rattle.jobs.specs.Reading.{ReadText, read_nodes, read_outs, read_end}
use Rattle.forms.specs.Template.{Template}
use Rattle.forms.specs.Due.{Taken, due}
use Rattle.forms.specs.declared.Form.{Form}
use Rattle.forms.specs.Read.{refusal_in}
use Rattle.forms.proofs.Told.{IsDue, IsNotDue}
use Rattle.common.specs.Limits.{max_switches, max_nodes, max_outputs}

-- the line due, number n, then a test of it, then what follows
module _ {A : Type 0} (t : Template) (n : ℕ) (s : List ℕ) (ground : Taken → ℕ) (go : Taken → Outcome A) where
  abbrev LineStep : Outcome A
  LineStep = due t n (lines_of s) then λ o. unless (ground o) n (go o)

  pub line_not : (g : Form) {q : Refusal} → IsNotDue t n s g → q ≡ refusal_in n g → handed (λ a. a) LineStep ≡ Err q
  unfolding ◌then◌ handed fault_of faults
  line_not g is e = rw (is.0, e, is.1)

  module _ (vs rest : List ℕ) (is : IsDue t n s vs rest) where
    abbrev o : Taken
    o = record { vals = vs; later = lines_of rest }

    -- a test that fails, whose fault is put at the line
    pub line_stops :
        (r : Result (Unit {0}) Fault) (q : Refusal)
        → r ≡ tested (ground o)
        → MatchResult r (λ u. ⊥) (λ x. q ≡ record { fault = x; line = n })
        → handed (λ a. a) LineStep ≡ Err q
    unfolding ◌then◌
    line_stops r q e h = rw is (handed_failed (λ a. a) n (go o) r (ground o) q e h)

    -- a test that passes
    pub line_goes : (r : Result (Unit {0}) Fault) → r ≡ tested (ground o) → IfErr r (λ x. ⊥) → LineStep ≡ go o
    unfolding ◌then◌
    line_goes r e h = rw is (unless_none (ground o) n (go o) (tested_passed r (ground o) e h))

-- N lines of one kind, each of which gives an entry of a list: m lines after the entries xs, from line n on
module _ {A X : Type 0} (F : ℕ → List X → ℕ → Lines → Outcome A) where
  -- the reading at entry j of the N of a list
  pub record SoFar (N n : ℕ) (s : List ℕ) (xs : List X) (rest : List ℕ) (j : ℕ) : Type 0 where
    pub so_far : F N [] n (lines_of s) ≡ F (N - j) (take j xs) (n + j) (lines_of rest)

  module _ (N n : ℕ) (s : List ℕ) (xs : List X) (long : length xs ≡ N) where
    pub so_far_none : SoFar N n s xs s 0
    so_far_none =
        let m : N - 0 ≡ N = omega arith in
        let l : n + 0 ≡ n = omega arith in
        record { so_far = rw (m, l) }

    module _ (rest : List ℕ) (j : ℕ) (h : SoFar N n s xs rest j) where
      module _ (below : j < N) where
        at_entry : F N [] n (lines_of s) ≡ F (suc (N - suc j)) (take j xs) (n + j) (lines_of rest)
        at_entry = let e : N - j ≡ suc (N - suc j) = omega arith in rw e at h.so_far

        -- the line of entry j is refused
        pub so_far_stops :
            (r : Refusal)
            → handed (λ a. a) (F (suc (N - suc j)) (take j xs) (n + j) (lines_of rest)) ≡ Err r
            → handed (λ a. a) (F N [] n (lines_of s)) ≡ Err r
        so_far_stops r e = ap (handed (λ a. a)) at_entry ∙ e

        -- the line gives the entry x
        pub so_far_more :
            (x : X) (after : List ℕ)
            → F (suc (N - suc j)) (take j xs) (n + j) (lines_of rest) ≡ F (N - suc j) (take j xs ++ (x ∷ [])) (n + j + 1) (lines_of after)
            → SoFar N n s (set xs j x) after (suc j)
        so_far_more x after e =
            let line-is : n + suc j ≡ n + j + 1 = omega arith in
            let within : j < length xs = omega arith in
            record { so_far = rw (take-suc-set xs j x within, line-is) (at_entry ∙ e) }

      -- every entry is there
      pub so_far_all : N ≤ j → j ≤ N → F N [] n (lines_of s) ≡ F 0 xs (n + N) (lines_of rest)
      so_far_all over within =
          let m : N - j ≡ 0 = omega arith in
          let l : j ≡ N = omega arith in
          let all : take j xs ≡ xs = take_all j xs (omega arith) in
          h.so_far ∙ rw (m, all, l)

-- what the figures of a node's line without a fault are below
pub record Below (d : Diagram) (i : ℕ) (n : Node) : Type 0 where
  pub turn : i ≡ id_count d
  pub switch : n.x < d.switches
  pub low : n.l < i
  pub high : n.h < i

pub node_below : (d : Diagram) (i : ℕ) (n : Node) → node_fault d i n ≡ 0 → Below d i n
unfolding node_fault
node_below d i n h =
    let h4 = others 2 _ _ h in
    let h5 = others 3 _ _ h4 in
    let below = not-false (ltb n.l i && ltb n.h i) (not_met 4 _ _ h5) in
    record {
      turn = eqb-true i (id_count d) (not-false (eqb i (id_count d)) (not_met 2 _ _ h));
      switch = ltb-true n.x d.switches (not-false (ltb n.x d.switches) (not_met 3 _ _ h4));
      low = ltb-true n.l i (and_left (ltb n.l i) (ltb n.h i) below);
      high = ltb-true n.h i (and_right (ltb n.l i) (ltb n.h i) below);
    }

-- ---- the lines of the nodes
abbrev nodes_from : ℕ → ℕ → ℕ → ℕ → List Node → ℕ → Lines → Outcome ReadText
nodes_from v one k m ns n ls = read_nodes m k (given v one ns []) n ls

-- at node i of N: the reading so far, and the marks
pub record NodesSoFar (v one k N n : ℕ) (s : List ℕ) (ns : List Node) (rest : List ℕ) (seen : Seen) (i : ℕ) : Type 0 where
  pub nodes_read : SoFar (nodes_from v one k) N n s ns rest i
  pub places : length seen.marks ≡ max_seen
  pub marked : Marked seen (take i ns)

module _ (v one k N n : ℕ) (s : List ℕ) (ns : List Node) (long : length ns ≡ N) where
  pub nodes_none : (seen : Seen) → seen ≡ no_marks → Marked seen [] → NodesSoFar v one k N n s ns s seen 0
  unfolding no_marks max_seen
  nodes_none seen is none =
      record { nodes_read = so_far_none (nodes_from v one k) N n s ns long; places = rw (is, length-replicate); marked = none }

  module _ (rest : List ℕ) (seen : Seen) (i : ℕ) (h : NodesSoFar v one k N n s ns rest seen i) (below : i < N) where
    -- the reading from the line of node i on
    abbrev AtNode : Outcome ReadText
    AtNode = read_nodes (suc (N - suc i)) k (given v one (take i ns) []) (n + i) (lines_of rest)

    pub nodes_stop : (r : Refusal) → handed (λ a. a) AtNode ≡ Err r → handed (λ a. a) (read_nodes N k (bare v one) n (lines_of s)) ≡ Err r
    unfolding bare
    nodes_stop r e = so_far_stops (nodes_from v one k) N n s ns long rest i h.nodes_read below r e

    pub nodes_more :
        (node : Node) (after : List ℕ)
        → AtNode ≡ read_nodes (N - suc i) k (with_node (given v one (take i ns) []) node) (n + i + 1) (lines_of after)
        → (ns' : List Node)
        → ns' ≡ set ns i node
        → (seen' : Seen)
        → seen' ≡ with_mark seen node
        → NodesSoFar v one k N n s ns' after seen' (suc i)
    unfolding with_node with_mark
    nodes_more node after e ns' put seen' mark =
        let within : i < length ns = omega (arith, long) in
        rw (put, mark)
        (record {
          nodes_read = so_far_more (nodes_from v one k) N n s ns long rest i h.nodes_read below node after e;
          places = rw length-set h.places;
          marked = rw (take-suc-set ns i node within) (marked_more seen (take i ns) node h.places h.marked);
        })

  pub nodes_all :
      (rest : List ℕ) (seen : Seen) (i : ℕ)
      → NodesSoFar v one k N n s ns rest seen i
      → N ≤ i
      → i ≤ N
      → read_nodes N k (bare v one) n (lines_of s) ≡ read_outs k (given v one ns []) (n + N) (lines_of rest)
  unfolding bare read_nodes
  nodes_all rest seen i h over within = so_far_all (nodes_from v one k) N n s ns long rest i h.nodes_read over within

-- ---- the lines of the outputs
abbrev outs_from : Holder → ℕ → List ℕ → ℕ → Lines → Outcome ReadText
outs_from d m outs n ls = read_outs m (held d outs) n ls

abbrev pub OutsSoFar : Holder → ℕ → ℕ → List ℕ → List ℕ → List ℕ → ℕ → Type 0
OutsSoFar d N n s outs rest j = SoFar (outs_from d) N n s outs rest j

module _ (d : Holder) (N n : ℕ) (s outs : List ℕ) (long : length outs ≡ N) where
  pub outs_none : OutsSoFar d N n s outs s 0
  outs_none = so_far_none (outs_from d) N n s outs long

  module _ (rest : List ℕ) (j : ℕ) (h : OutsSoFar d N n s outs rest j) where
    -- the reading from the line of output j on
    abbrev AtOut : Outcome ReadText
    AtOut = read_outs (suc (N - suc j)) (held d (take j outs)) (n + j) (lines_of rest)

    pub outs_stop : j < N → (r : Refusal) → handed (λ a. a) AtOut ≡ Err r → handed (λ a. a) (read_outs N (held d []) n (lines_of s)) ≡ Err r
    outs_stop below r e = so_far_stops (outs_from d) N n s outs long rest j h below r e

    pub outs_more :
        j < N
        → (target : ℕ) (after : List ℕ)
        → AtOut ≡ read_outs (N - suc j) (with_out (held d (take j outs)) target) (n + j + 1) (lines_of after)
        → OutsSoFar d N n s (set outs j target) after (suc j)
    unfolding held with_out
    outs_more below target after e = so_far_more (outs_from d) N n s outs long rest j h below target after e

    pub outs_all : N ≤ j → j ≤ N → read_outs N (held d []) n (lines_of s) ≡ read_end (held d outs) (n + N) (lines_of rest)
    unfolding read_outs
    outs_all over within = so_far_all (outs_from d) N n s outs long rest j h over within

-- ---- where a `?` ends the reading
pub passed_on : {V : Type 0} (r : Result V Refusal) (e : Refusal) → IsErr r × IsErrAnd r (λ x. x ≡ e) → r ≡ Err e
passed_on (Ok v) e h = absurd h.1
passed_on (Err x) e h = cc

pub goes_err :
    {A V : Type 0} (whole : Outcome A) (r : Result V Refusal) (e : Refusal) (rest : V → Outcome A)
    → IsErr r × IsErrAnd r (λ x. x ≡ e)
    → handed (λ a. a) whole ≡ Err e
    → Goes whole r rest
goes_err whole r e rest h q = rw (passed_on r e h) q

-- sizes of 0 are at most the limits
pub no_sizes : HeadRanges 0 0 0
unfolding max_switches max_nodes max_outputs
no_sizes = record { switches_most = omega arith; nodes_most = omega arith; outputs_most = omega arith }
