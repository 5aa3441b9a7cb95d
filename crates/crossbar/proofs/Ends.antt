-- How the calls of a host end: what is added to the calls beneath is the record's slice.
use Prim.Native.Nat.{ℕ, ◌/◌, ◌+◌, ◌-◌, ◌≤◌}
use mathlib.Core.Path.{refl}
use mathlib.Core.List.{List}
use native.Mathlib.Omega.{arith}
use lib.ListN.{length}
use Rattle.common.specs.Limits.{max_rows, max_columns, max_text}
use Rattle.common.specs.Outcome.{Outcome, most_number}
use Rattle.common.proofs.Within.{EndsWithin, ends_done, then_ends, unless_ends, within, most_line}
use Rattle.cells.specs.Record.{Whole}
use Rattle.cells.proofs.Sizes.{CellsMost}
use Rattle.placement.proofs.Maps.{mapped_ends}
use Rattle.placement.specs.Map.{map_job}
use Rattle.conduction.specs.Light.{Lit}
use Rattle.conduction.proofs.Light.{lit_ends}
use Rattle.listings.specs.Loading.{load}
use Rattle.listings.proofs.Refusals.{loaded_ends, printed_ends}
use Rattle.crossbar.specs.Host.{for_record, host_map, host_load, of_record, host_light, host_print}

record_ends : (n : ℕ) (o : Outcome Whole) → EndsWithin CellsMost most_line o → EndsWithin CellsMost most_line (for_record n o)
unfolding for_record within most_number
record_ends n o h = then_ends o _ h (λ w most. unless_ends _ 0 _ refl (omega arith) (λ z. ends_done most))

pub map_ends : (s : List ℕ) (n m : ℕ) → EndsWithin CellsMost most_line (host_map s n m)
unfolding host_map
map_ends s n m = record_ends n (map_job s m) (mapped_ends s m)

pub load_ends : (s : List ℕ) (n m : ℕ) → EndsWithin CellsMost most_line (host_load s n m)
unfolding host_load
load_ends s n m = record_ends n (load s m) (loaded_ends s m)

-- the rounds and the text, whose refusals have no line
of_record_ends :
    {A : Type 0} {P : A → Type 0} (s : List ℕ) (rest : Outcome A) → EndsWithin P most_line rest → EndsWithin P most_line (of_record s rest)
unfolding of_record within most_number
of_record_ends s rest h = unless_ends _ 0 rest refl (omega arith) (λ z. h)

pub light_ends :
    (s cells setting : List ℕ) (room : ℕ)
    → EndsWithin (λ (a : Lit). a.count ≤ max_rows + max_columns - 1) most_line (host_light s cells setting room)
unfolding host_light
light_ends s cells setting room = of_record_ends s _ (lit_ends _ cells setting (room / 2))

pub print_ends : (s cells : List ℕ) (room : ℕ) → EndsWithin (λ t. length t ≤ max_text) most_line (host_print s cells room)
unfolding host_print
print_ends s cells room = of_record_ends s _ (printed_ends _ cells room)
