-- Lists with zeros past their entries: the node table, and the outputs of a record.
use Prim.Native.Nat.{ℕ, zero, suc, ◌-◌, ◌≤◌, ◌<◌}
use mathlib.Core.Path.{◌≡◌, refl, sym}
use mathlib.Core.Logic.{⊎_elim}
use mathlib.Core.List.{List, [], ◌∷◌, ◌++◌}
use native.Mathlib.Omega.{arith}
use lib.ListN.{length, get_or, take, replicate, length-append, length-replicate, get_or-eq_default}
use lib.Seq.{ext_get_or, get_or-take, length-take-le}
use Rattle.common.specs.Limits.{max_nodes}
use Rattle.common.specs.Lists.{zeros, padded}
use Rattle.common.specs.Outcome.{Outcome, done, refused, value_of}
use Rattle.std.proofs.lemmas.Bool.{cases_lt}
use Rattle.diagram.specs.Diagram.{Diagram, no_node}
use Rattle.jobs.specs.Job.{accepted, table}
use Rattle.jobs.proofs.Accepted.{accepted_job}

-- an entry of a list with more of its default after it
pub get_or_more : {A : Type 0} (l : List A) (m k : ℕ) (d : A) → get_or (l ++ replicate m d) k d ≡ get_or l k d
get_or_more [] zero k d = refl
get_or_more [] (suc m) zero d = refl
get_or_more [] (suc m) (suc k) d = get_or_more [] m k d
get_or_more (a ∷ l) m zero d = refl
get_or_more (a ∷ l) m (suc k) d = get_or_more l m k d

-- the table has its 254 entries, whatever the text says
length-table : (s : List ℕ) (o : Outcome Diagram) → accepted s ≡ o → length (table o) ≡ max_nodes
unfolding table value_of
length-table s (done d) e =
    let few = (accepted_job s d e).sizes.nodes_most in simp (length-append, length-replicate) (omega arith)
length-table s (refused k l) e = length-replicate max_nodes no_node

pub table-length : (s : List ℕ) → length (table (accepted s)) ≡ max_nodes
table-length s = length-table s (accepted s) refl

-- the outputs that are used, and zeros past them
pub padded-take :
    (p k : ℕ) (outs : List ℕ)
    → k ≤ p
    → length outs ≡ p
    → ((i : ℕ) → k ≤ i → get_or outs i 0 ≡ 0)
    → padded p (take k outs) ≡ outs
unfolding padded
padded-take p k outs few entries past =
    let m = p - length (take k outs) in
    let front : length (take k outs) ≡ k = length-take-le k outs (omega arith) in
    let count : length (take k outs ++ zeros m) ≡ length outs = simp (length-append, length-replicate) (omega arith) in
    ext_get_or 0 (take k outs ++ zeros m) outs count
    (λ (i : ℕ) (within : i < length (take k outs ++ zeros m)).
    rw (get_or_more (take k outs) m i 0)
    (⊎_elim
    (λ (below : i < k). get_or-take k outs i 0 below)
    (λ (over : k ≤ i).
    let end : length (take k outs) ≤ i = omega arith in
    rw (get_or-eq_default (take k outs) 0 end) (sym (past i over)))
    (cases_lt i k)))
