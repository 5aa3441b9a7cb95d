-- The parts of an answer are read back, for each call: its values and its lines are far below 2 to the 56th.
use Prim.Native.Nat.{ℕ, ◌+◌, ◌-◌, ◌*◌, ◌/◌, ◌%◌, ◌≤◌, ◌<◌}
use mathlib.Core.Path.{◌≡◌, refl, ap, ◌∙◌}
use native.Mathlib.Omega.{arith}
use lib.ListN.{length}
use Rattle.common.specs.Limits.{max_rows, max_columns, max_nodes, max_outputs, max_text}
use Rattle.common.specs.Outcome.{Outcome, done, refused, number_of}
use Rattle.jobs.specs.Job.{walk}
use Rattle.crossbar.specs.Host.{number_unit, packed, cells_due, host_map, host_load, host_light, host_print}
use Rattle.crossbar.specs.Parts.{number_part, low_part, Parts, CallsRead}
use Rattle.common.proofs.Within.{EndsWithin, ends_done, ends_refused, most_line}
use Rattle.jobs.proofs.Refusals.{walk_ends}
use Rattle.crossbar.proofs.Ends.{map_ends, light_ends, print_ends, load_ends}

-- where values up to `most` and lines up to b are below 2 to the 56th, an outcome is read back from its answer
pub parts :
    {A : Type 0} (value : A → ℕ) (most b : ℕ) (o : Outcome A)
    → most < number_unit
    → b < number_unit
    → EndsWithin (λ a. value a ≤ most) b o
    → Parts value most o
unfolding packed number_part low_part number_of
parts value most b (done a) small short (ends_done m) =
    let zero_is : value a / number_unit ≡ 0 = omega arith in
    let all-is : value a % number_unit ≡ value a = omega arith in
    record {
      number = zero_is;
      none_refused = ((λ e. (a, refl)), (λ h. zero_is));
      value_low = λ c e. let same : a ≡ c = cc in all-is ∙ ap value same;
      value_most = λ c e. let same : a ≡ c = cc in rw (← same) m;
      line_low = λ k n e. absurd (let z : ◌≡◌ {A = ℕ} 0 1 = cc in omega arith);
    }
parts value most b (refused k n) small short (ends_refused low high l) =
    let number_is : (k * number_unit + n) / number_unit ≡ k = omega arith in
    let line-is : (k * number_unit + n) % number_unit ≡ n = omega arith in
    record {
      number = number_is;
      none_refused = ((λ e. absurd (omega arith)), (λ h. absurd (let e = h.1 in let z : ◌≡◌ {A = ℕ} 0 1 = cc in omega arith)));
      value_low = λ c e. absurd (let z : ◌≡◌ {A = ℕ} 0 1 = cc in omega arith);
      value_most = λ c e. absurd (let z : ◌≡◌ {A = ℕ} 0 1 = cc in omega arith);
      line_low = λ i m e. let same : n ≡ m = cc in line-is ∙ same;
    }

pub calls_read : CallsRead
unfolding host_map host_load host_light host_print cells_due most_line max_rows max_columns max_nodes max_outputs max_text
calls_read =
    record {
      of_map =
          λ text n m.
          parts cells_due (max_rows * max_columns) most_line (host_map text n m) (omega arith) (omega arith)
          (map_ends text n m);
      of_walk =
          λ text setting j.
          parts (λ v. v) 1 most_line (walk text setting j) (omega arith) (omega arith)
          (walk_ends text setting j);
      of_light =
          λ s cells setting room.
          parts (λ a. a.count) (max_rows + max_columns - 1) most_line (host_light s cells setting room) (omega arith) (omega arith)
          (light_ends s cells setting room);
      of_print =
          λ s cells room.
          parts length max_text most_line (host_print s cells room) (omega arith) (omega arith)
          (print_ends s cells room);
      of_load =
          λ text n m.
          parts cells_due (max_rows * max_columns) most_line (host_load text n m) (omega arith) (omega arith)
          (load_ends text n m);
    }
