-- Each call refuses nothing exactly where what it is handed meets none of its grounds.
use Prim.Native.Nat.{ℕ, ◌+◌, ◌*◌, ◌/◌, ◌≤◌, ◌<◌}
use mathlib.Core.Path.{◌≡◌, sym, ap, ◌∙◌}
use mathlib.Core.Logic.Iff
use mathlib.Core.Logic.{◌↔◌, inl, inr}
use mathlib.Core.Bool.{true, not, ◌&&◌}
use mathlib.Core.List.{List, []}
use native.Mathlib.Omega.{arith}
use lib.ListN.{length, take}
use lib.Dec.{ltb}
use borrow.Author.Tests.{ltb-true, ltb-false, not-false}
use Rattle.std.proofs.lemmas.Bool.{cases_lt}
use Rattle.common.specs.Outcome.{Outcome, done, number_of}
use Rattle.common.proofs.Lists.{and_left, and_right}
use Rattle.common.proofs.Outcome.{then_done, unless_done, not_met, others}
use Rattle.cells.specs.Record.{size, sound}
use Rattle.cells.specs.Setting.{is_setting}
use Rattle.jobs.specs.Job.{accepted, walk}
use Rattle.jobs.proofs.Text.{one_text}
use Rattle.conduction.specs.Light.{light, lit_by}
use Rattle.conduction.proofs.Light.{light_accepts}
use Rattle.conduction.proofs.Promise.{by_14}
use Rattle.listings.specs.Listing.{listing, print}
use Rattle.listings.specs.Loading.{load}
use Rattle.listings.proofs.Loaded.{load_done, loaded_text, loaded_outs}
use Rattle.listings.proofs.Printed.{load-listing}
use Rattle.listings.proofs.Answers.{print-fits}
use Rattle.crossbar.specs.Bytes.{record_length, record_from, holds_record}
use Rattle.crossbar.specs.Host.{for_record, of_record, host_map, host_load, host_light, host_print}
use Rattle.crossbar.proofs.Parts.{calls_read}
use Rattle.crossbar.proofs.Records.{one_held}
use Rattle.crossbar.proofs.ReadBack.{for_record_long}
use Rattle.agreement.specs.Acceptance.{Mappable, Walkable, Lightable, Printable, Loadable, CallsAccept}
use Rattle.agreement.proofs.Calls.{mapped_by}
use Rattle.agreement.proofs.Demand3.{demand_3}

-- an outcome that is done
abbrev Done : {A : Type 0} → Outcome A → Type 0
Done {A} o = (a : A) × (o ≡ done a)

-- what follows ground 12 on a record's slice
pub held_done :
    {A : Type 0} (s : List ℕ) (rest : Outcome A) (a : A) → of_record s rest ≡ done a → (holds_record s ≡ true) × (rest ≡ done a)
unfolding of_record
held_done s rest a h =
    let u = unless_done _ 0 rest a h in
    (not-false (holds_record s) (not_met 11 (not (holds_record s)) [] u.0), u.1)

map_done : (text : List ℕ) (n m : ℕ) → Done (host_map text n m) ↔ Mappable text n m
unfolding host_map
map_done text n m = (
  (λ found.
      let by = mapped_by text n m found.0 found.1 in
      record {
        diagram = by.0;
        job = (one_text.accepts text by.0).0 by.1.taken;
        record_room = by.1.long;
        cells_room = by.1.fits;
      }),
  (λ given.
      let d = given.diagram in
      let claim = demand_3 text d ((one_text.accepts text d).1 given.job) in
      let fits : size claim.whole.head ≤ m = rw claim.placed given.cells_room in
      (claim.whole, for_record_long n _ given.record_room ∙ claim.maps m fits)),
)

walk_done : (text setting : List ℕ) (j : ℕ) → Done (walk text setting j) ↔ Walkable text setting j
unfolding walk
walk_done text setting j = (
  (λ found.
      let job = then_done (accepted text) _ found.0 found.1 in
      let d = job.0 in
      let kept = unless_done _ 0 _ found.0 job.2 in
      let a = is_setting d.switches setting in
      let b = ltb j (length d.outs) in
      let both = not-false (a && b) (not_met 12 (not (a && b)) [] kept.0) in
      record {
        diagram = d;
        job = (one_text.accepts text d).0 job.1;
        set = and_left a b both;
        below = ltb-true j (length d.outs) (and_right a b both);
      }),
  (λ given.
      let d = given.diagram in
      (demand_3 text d ((one_text.accepts text d).1 given.job)).walks setting j given.set given.below),
)

light_done : (head cells setting : List ℕ) (room : ℕ) → Done (host_light head cells setting room) ↔ Lightable head cells setting room
unfolding host_light light
light_done head cells setting room = (
  (λ found.
      let x = record_from head in
      let holds = held_done head (light x cells setting (room / 2)) found.0 found.1 in
      let z = (unless_done _ 0 _ found.0 holds.1).0 in
      record {
        holds = holds.0;
        right = not-false (sound x cells) (not_met 11 _ _ z);
        set = not-false (is_setting x.switches setting) (not_met 12 _ _ (others 11 _ _ z));
        firsts_room = omega (arith, ltb-false (room / 2) (x.rows + x.columns) (not_met 13 _ _ (others 12 _ _ (others 11 _ _ z))));
      }),
  (λ given.
      let x = record_from head in
      (lit_by x cells setting, one_held head _ given.holds ∙ light_accepts x cells setting (room / 2) given.right given.set (omega (arith, given.firsts_room)))),
)

light_short :
    (head cells setting : List ℕ) (room : ℕ) → holds_record head ≡ true → sound (record_from head) cells ≡ true
    → is_setting (record_from head).switches setting ≡ true
    → (number_of (host_light head cells setting room) ≡ 14) ↔ (room < 2 * ((record_from head).rows + (record_from head).columns))
unfolding host_light number_of
light_short head cells setting room holds right set =
    let x = record_from head in
    let w = x.rows + x.columns in
    let is = one_held head (light x cells setting (room / 2)) holds in (
      (λ e.
          elim (cases_lt room (2 * w)) [
            | inl h ↦ h
            | inr h ↦
                let none : number_of (host_light head cells setting room) ≡ 0 =
                ap number_of (is ∙ light_accepts x cells setting (room / 2) right set (omega arith)) in
                absurd (omega (arith, e, none))
          ]),
      (λ h. ap number_of (is ∙ by_14 x cells setting (room / 2) right set (omega arith))),
    )

print_done : (head cells : List ℕ) (room : ℕ) → Done (host_print head cells room) ↔ Printable head cells room
unfolding host_print print
print_done head cells room = (
  (λ found.
      let x = record_from head in
      let holds = held_done head (print x cells room) found.0 found.1 in
      let z = (unless_done _ 0 _ found.0 holds.1).0 in
      record {
        holds = holds.0;
        right = not-false (sound x cells) (not_met 11 _ _ z);
        text_room = ltb-false room (length (listing x cells)) (not_met 13 _ _ (others 11 _ _ z));
      }),
  (λ given.
      let x = record_from head in
      (listing x cells, one_held head _ given.holds ∙ print-fits x cells room given.right given.text_room)),
)

load_is_done : (text : List ℕ) (n m : ℕ) → Done (host_load text n m) ↔ Loadable text n m
unfolding host_load for_record
load_is_done text n m = (
  (λ found.
      let made = then_done (load text m) _ found.0 found.1 in
      let w = made.0 in
      let for-record = unless_done _ 0 (done w) found.0 made.2 in
      let told = loaded_text text m w made.1 in
      let listed = load_done text m w made.1 in
      record {
        head = w.head;
        codes = w.codes;
        all_outs = loaded_outs text m w made.1;
        right = told.0;
        text_is = sym told.1;
        record_room = ltb-false n record_length (not_met 13 _ _ for-record.0);
        cells_room = rw listed.2 at listed.4;
      }),
  (λ given.
      let x = given.head in (
        record { head = x; codes = take (size x) given.codes },
        for_record_long n (load text m) given.record_room
            ∙ ap (λ (s : List ℕ). load s m) given.text_is
            ∙ load-listing x given.codes m given.all_outs given.right given.cells_room,
      )),
)

pub calls_accept : CallsAccept
calls_accept =
    record {
      map =
          λ text head₀ cells₀ answer head cells kept.
          let n = length head₀ in
          let m = length cells₀ in
          rw kept.to_record.answer (Iff.trans (calls_read.of_map text n m).none_refused (map_done text n m));
      walk =
          λ text setting j answer kept.
          rw kept (Iff.trans (calls_read.of_walk text setting j).none_refused (walk_done text setting j));
      light =
          λ head cells setting firsts₀ answer firsts kept.
          let room = length firsts₀ in
          rw kept.answer (Iff.trans (calls_read.of_light head cells setting room).none_refused (light_done head cells setting room));
      light_short =
          λ head cells setting firsts₀ answer firsts kept holds right set.
          let room = length firsts₀ in
          rw (kept.answer, (calls_read.of_light head cells setting room).number) (light_short head cells setting room holds right set);
      print =
          λ head cells text₀ answer text kept.
          let room = length text₀ in
          rw kept.answer (Iff.trans (calls_read.of_print head cells room).none_refused (print_done head cells room));
      load =
          λ text head₀ cells₀ answer head cells kept.
          let n = length head₀ in
          let m = length cells₀ in
          rw kept.to_record.answer (Iff.trans (calls_read.of_load text n m).none_refused (load_is_done text n m));
    }
