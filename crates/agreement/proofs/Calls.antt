-- Demand 3 of the calls: from their promises and `demand_3`.
use Prim.Native.Nat.{ℕ, ◌+◌, ◌*◌, ◌/◌, ◌≤◌, ◌<◌}
use mathlib.Core.Path.{◌≡◌, sym, ap, ◌∙◌}
use mathlib.Core.Logic.Iff
use mathlib.Core.Logic.{◌↔◌}
use mathlib.Core.Bool.{true}
use mathlib.Core.List.{List, []}
use native.Mathlib.Omega.{arith}
use lib.ListN.{length, get_or, take}
use lib.Dec.{ltb}
use borrow.Author.Tests.{ltb-false}
use Rattle.common.specs.Limits.{max_outputs}
use Rattle.common.specs.Lists.{padded}
use Rattle.common.specs.Outcome.{done, buffer_of}
use Rattle.common.proofs.Lists.{length-padded, take-padded}
use Rattle.common.proofs.Outcome.{then_done, unless_done, not_met}
use Rattle.cells.specs.declared.Crossbar.{Crossbar}
use Rattle.cells.specs.Record.{Whole, size}
use Rattle.cells.specs.Setting.{is_setting}
use Rattle.diagram.specs.Diagram.{Diagram}
use Rattle.jobs.specs.Job.{accepted, walk}
use Rattle.jobs.proofs.Accepted.{accepted_job}
use Rattle.placement.specs.Placement as placement
use Rattle.placement.specs.Map.{map_job}
use Rattle.placement.proofs.Sound.{cells_count, outs_count}
use Rattle.conduction.specs.Light.{Lit, light}
use Rattle.crossbar.specs.Bytes.{record_length, pairs, record_bytes, number_at, record_from}
use Rattle.crossbar.specs.Host.{for_record, host_map, host_light, MapCall, LightCall, WalkCall}
use Rattle.crossbar.specs.Parts.{number_part, low_part}
use Rattle.crossbar.proofs.Parts.{calls_read}
use Rattle.crossbar.proofs.Pairs.{numbers_back}
use Rattle.crossbar.proofs.Records.{length_record, record_written}
use Rattle.crossbar.proofs.ReadBack.{for_record_long, light-written}
use Rattle.agreement.specs.Demand3.{Demand3, Reads, Tells, Shows, stands_on}
use Rattle.agreement.specs.Calls.{in_buffers, Holds, BuffersAgree, CallsAgree, Demand3OfCalls}
use Rattle.agreement.proofs.Demand3.{demand_3}
use Rattle.conduction.proofs.Slices.{joined_same}

-- what tells or shows one statement does so of an equivalent one
told_same : (A B P Q : Type 0) → P ↔ Q → (A ↔ P) × (B ↔ (P → ⊥)) → (A ↔ Q) × (B ↔ (Q → ⊥))
told_same A B P Q e a = (
  Iff.trans a.0 e,
  ((λ z q. a.1.0 z (e.1 q)), (λ never. a.1.1 (λ p. never (e.0 p)))),
)

module _ (text : List ℕ) (d : Diagram) (taken : accepted text ≡ done d) where
  abbrev claim : Demand3 text d
  claim = demand_3 text d taken

  abbrev whole : Whole
  whole = claim.whole

  -- what holds of the crossbar of an accepted job
  outs_all : length whole.head.outs ≡ max_outputs
  outs_all = rw claim.placed (outs_count d (accepted_job text d taken).sizes)

  codes_all : length whole.codes ≡ size whole.head
  codes_all = rw claim.placed (cells_count d)

  -- light, given slices of any length that hold the crossbar
  module _ (n m : ℕ) (long : record_length ≤ n) (fits : size whole.head ≤ m) where
    abbrev record_slice : List ℕ
    record_slice = padded n (record_bytes whole.head)

    abbrev cells_slice : List ℕ
    cells_slice = padded m whole.codes

    light_is : (setting : List ℕ) (room : ℕ) → host_light record_slice cells_slice setting room ≡ light whole.head cells_slice setting (room / 2)
    light_is setting room = light-written whole.head outs_all n long cells_slice setting room

    lit_by_lem :
        (setting before : List ℕ) (answer : ℕ) (after : List ℕ)
        → LightCall record_slice cells_slice setting before answer after
        → number_part answer ≡ 0
        → (a : Lit) × (light whole.head cells_slice setting (length before / 2) ≡ done a) × (after ≡ padded (length before) (pairs a.firsts))
    unfolding buffer_of
    lit_by_lem setting before answer after kept none =
        let room = length before in
        let found = (calls_read.of_light record_slice cells_slice setting room).none_refused.0 (rw kept.answer at none) in
        let a = found.0 in
        (a, sym (light_is setting room) ∙ found.1, kept.buffer ∙ ap (buffer_of room (λ (x : Lit). pairs x.firsts)) found.1)

    shown_whole :
        (setting before : List ℕ) (answer : ℕ) (after : List ℕ) (j : ℕ)
        → LightCall record_slice cells_slice setting before answer after
        → number_part answer ≡ 0
        → j < length d.outs
        → Shows (number_at after (stands_on whole j)) (Reads whole setting j)
    shown_whole setting before answer after j kept none h =
        let lit = lit_by_lem setting before answer after kept none in
        let a = lit.0 in
        let number : number_at after (stands_on whole j) ≡ get_or a.firsts (stands_on whole j) 0 =
        ap (λ (q : List ℕ). number_at q (stands_on whole j)) lit.2 ∙ numbers_back (length before) a.firsts (stands_on whole j) in
        rw number (claim.shown setting m (length before / 2) a j fits lit.1 h)

    lights_whole :
        (setting before : List ℕ) (answer : ℕ) (after : List ℕ)
        → LightCall record_slice cells_slice setting before answer after
        → is_setting d.switches setting ≡ true
        → 2 * (whole.head.rows + whole.head.columns) ≤ length before
        → number_part answer ≡ 0
    lights_whole setting before answer after kept s room =
        let lit = claim.lights setting m (length before / 2) fits s (omega (arith, room)) in
        rw kept.answer
        ((calls_read.of_light record_slice cells_slice setting (length before)).none_refused.1 (lit.0, light_is setting (length before) ∙ lit.1))

  module _ (n m : ℕ) (long : record_length ≤ n) (fits : size whole.head ≤ m) where
    -- the buffers that map leaves
    abbrev head : List ℕ
    head = padded n (record_bytes whole.head)

    abbrev cells : List ℕ
    cells = padded m whole.codes

    record_is : record_from head ≡ whole.head
    record_is = record_written whole.head outs_all n

    stands_same : (j : ℕ) → stands_on (in_buffers head cells) j ≡ stands_on whole j
    unfolding in_buffers
    stands_same j = ap (λ (x : Crossbar). get_or x.outs j 0) record_is

    reads_same : (setting : List ℕ) (j : ℕ) → Reads (in_buffers head cells) setting j ↔ Reads whole setting j
    unfolding in_buffers
    reads_same setting j =
        rw (record_is, joined_same whole.head whole.codes m setting) ((λ chain. chain), (λ chain. chain))

    walked_by :
        (setting : List ℕ) (j answer : ℕ)
        → WalkCall text setting j answer
        → number_part answer ≡ 0
        → (walk text setting j ≡ done (low_part answer))
    walked_by setting j answer kept none =
        let read = calls_read.of_walk text setting j in
        let found = read.none_refused.0 (rw kept at none) in
        let low : low_part answer ≡ found.0 = rw kept (read.value_low found.0 found.1) in
        found.1 ∙ ap done (sym low)

    -- each part of the claim, from the same part of demand 3
    cells_full : cells ≡ padded (length cells) (placement.cells d)
    cells_full =
        let filled : length cells ≡ m = length-padded m whole.codes (rw codes_all fits) in
        rw filled (ap (λ (x : Whole). padded m x.codes) claim.placed)

    rows :
        (i j : ℕ)
        → i < length d.outs
        → j < length d.outs
        → ((setting : List ℕ)
        → is_setting d.switches setting ≡ true
        → Reads (in_buffers head cells) setting i ↔ Reads (in_buffers head cells) setting j)
        ↔ (stands_on (in_buffers head cells) i ≡ stands_on (in_buffers head cells) j)
    rows i j hi hj =
        let one = claim.one_row i j hi hj in (
          (λ agree.
              stands_same i
              ∙ one.0 (λ setting s. Iff.trans (Iff.symm (reads_same setting i)) (Iff.trans (agree setting s) (reads_same setting j)))
              ∙ sym (stands_same j)),
          (λ same setting s.
              Iff.trans (reads_same setting i)
              (Iff.trans (one.1 (sym (stands_same i) ∙ same ∙ stands_same j) setting s) (Iff.symm (reads_same setting j)))),
        )

    -- slices that hold this crossbar, in its own terms
    front_record : take record_length head ≡ record_bytes whole.head
    front_record = take-padded n record_length (record_bytes whole.head) (length_record whole.head outs_all)

    size_is : size (record_from head) ≡ size whole.head
    size_is = ap size record_is

    front_cells : take (size (record_from head)) cells ≡ whole.codes
    front_cells = take-padded m (size (record_from head)) whole.codes (codes_all ∙ sym size_is)

    held : Holds head cells head cells
    held =
        let filled-record : length head ≡ n = length-padded n (record_bytes whole.head) (rw (length_record whole.head outs_all) long) in
        let filled-cells : length cells ≡ m = length-padded m whole.codes (rw codes_all fits) in
        record {
          record_long = rw filled-record long;
          record_held = rw (filled-record, front_record);
          cells_long = omega (arith, filled-cells, size_is, fits);
          cells_held = rw (filled-cells, front_cells);
        }

    module _ (head₁ cells₁ : List ℕ) (holds : Holds head cells head₁ cells₁) where
      enough : size whole.head ≤ length cells₁
      enough = rw size_is at holds.cells_long

      held_call :
          (setting before : List ℕ) (answer : ℕ) (after : List ℕ)
          → LightCall head₁ cells₁ setting before answer after
          → LightCall
          (padded (length head₁) (record_bytes whole.head))
          (padded (length cells₁) whole.codes)
          setting
          before
          answer
          after
      held_call setting before answer after kept =
          let record_is : head₁ ≡ padded (length head₁) (record_bytes whole.head) =
          holds.record_held ∙ ap (padded (length head₁)) front_record in
          let cells_are : cells₁ ≡ padded (length cells₁) whole.codes =
          holds.cells_held ∙ ap (padded (length cells₁)) front_cells in
          rw (record_is, cells_are) at kept

      shown :
          (setting before : List ℕ) (answer : ℕ) (after : List ℕ) (j : ℕ)
          → LightCall head₁ cells₁ setting before answer after
          → number_part answer ≡ 0
          → j < length d.outs
          → Shows (number_at after (stands_on (in_buffers head cells) j)) (Reads (in_buffers head cells) setting j)
      shown setting before answer after j kept none h =
          let number : number_at after (stands_on (in_buffers head cells) j) ≡ number_at after (stands_on whole j) = ap (number_at after) (stands_same j) in
          rw number
          (told_same _ _ (Reads whole setting j) (Reads (in_buffers head cells) setting j) (Iff.symm (reads_same setting j))
          (shown_whole (length head₁) (length cells₁) holds.record_long enough setting before answer after j
          (held_call setting before answer after kept) none h))

      lights :
          (setting before : List ℕ) (answer : ℕ) (after : List ℕ)
          → LightCall head₁ cells₁ setting before answer after
          → is_setting d.switches setting ≡ true
          → 2 * ((record_from head).rows + (record_from head).columns) ≤ length before
          → number_part answer ≡ 0
      lights setting before answer after kept s room =
          lights_whole (length head₁) (length cells₁) holds.record_long enough setting before answer after
          (held_call setting before answer after kept) s (rw record_is at room)

    walked :
        (setting : List ℕ) (j answer : ℕ)
        → WalkCall text setting j answer
        → number_part answer ≡ 0
        → Tells (low_part answer) (Reads (in_buffers head cells) setting j)
    walked setting j answer kept none =
        told_same _ _ (Reads whole setting j) (Reads (in_buffers head cells) setting j) (Iff.symm (reads_same setting j))
        (claim.walked setting j (low_part answer) (walked_by setting j answer kept none))

    buffers_agree : BuffersAgree text d head cells
    buffers_agree =
        record {
          placed = record_is ∙ ap (λ (x : Whole). x.head) claim.placed;
          cells-placed = cells_full;
          stands = λ j h. stands_same j ∙ claim.stands j h;
          reading = λ setting j s h. Iff.trans (reads_same setting j) (claim.reading setting j s h);
          one_row = rows;
          held = held;
          shown = λ head₁ cells₁ setting before answer after j holds. shown head₁ cells₁ holds setting before answer after j;
          lights = λ head₁ cells₁ setting before answer after holds. lights head₁ cells₁ holds setting before answer after;
          walked = walked;
          walks =
              λ setting j answer kept s h.
              rw kept ((calls_read.of_walk text setting j).none_refused.1 (claim.walks setting j s h));
        }

-- the crossbar of a diagram
abbrev placed : Diagram → Whole
placed d = record { head = placement.crossbar d; codes = placement.cells d }

-- a crossbar of map's outcome: that of the job, and the buffers hold it
pub record MappedBy (text : List ℕ) (n m : ℕ) (w : Whole) (d : Diagram) : Type 0 where
  pub taken : accepted text ≡ done d
  pub whole_is : w ≡ placed d
  pub long : record_length ≤ n
  pub fits : size (placement.crossbar d) ≤ m

pub mapped_by : (text : List ℕ) (n m : ℕ) (w : Whole) → host_map text n m ≡ done w → (d : Diagram) × MappedBy text n m w d
unfolding host_map for_record map_job
mapped_by text n m w h =
    let made = then_done (map_job text m) _ w h in
    let for-record = unless_done _ 0 (done made.0) w made.2 in
    let job = then_done (accepted text) _ made.0 made.1 in
    let for-cells = unless_done _ 0 (done _) made.0 job.2 in
    let d = job.0 in
    let one = for-cells.1 in
    let two = for-record.1 in (
      d,
      record {
        taken = job.1;
        whole_is = sym (cc);
        long = ltb-false n record_length (not_met 13 (ltb n record_length) [] for-record.0);
        fits = ltb-false m (size (placement.crossbar d)) (not_met 13 (ltb m (size (placement.crossbar d))) [] for-cells.0);
      },
    )

module _ (text head₀ cells₀ : List ℕ) (answer : ℕ) (head cells : List ℕ) (kept : MapCall text head₀ cells₀ answer head cells) where
  -- map refuses nothing exactly where its outcome is a crossbar
  none_refused :
      (number_part answer ≡ 0) ↔ ((w : Whole) × (host_map text (length head₀) (length cells₀) ≡ done w))
  none_refused =
      rw kept.to_record.answer (calls_read.of_map text (length head₀) (length cells₀)).none_refused

  agree : (d : Diagram) → accepted text ≡ done d → number_part answer ≡ 0 → BuffersAgree text d head cells
  unfolding buffer_of
  agree d taken none =
      let n = length head₀ in
      let m = length cells₀ in
      let found = none_refused.0 none in
      let job = mapped_by text n m found.0 found.1 in
      let by = job.1 in
      let also = by.taken in
      let same : job.0 ≡ d = cc in
      let claim = demand_3 text d taken in
      let whole_is : found.0 ≡ claim.whole = by.whole_is ∙ ap placed same ∙ sym claim.placed in
      let outcome : host_map text n m ≡ done claim.whole = found.1 ∙ ap done whole_is in
      let fits : size claim.whole.head ≤ m = rw (claim.placed, ← same) by.fits in
      let head_is : head ≡ padded n (record_bytes claim.whole.head) = kept.to_record.buffer ∙ ap (buffer_of n (λ (w : Whole). record_bytes w.head)) outcome in
      let cells_are : cells ≡ padded m claim.whole.codes = kept.to_cells.buffer ∙ ap (buffer_of m (λ (w : Whole). w.codes)) outcome in
      rw (head_is, cells_are) (buffers_agree text d taken n m by.long fits)

  agree_all : CallsAgree text head₀ cells₀ answer head cells
  unfolding host_map
  agree_all =
      record {
        maps =
            λ d taken long fits.
            let claim = demand_3 text d taken in
            let room : size claim.whole.head ≤ length cells₀ = rw claim.placed fits in
            none_refused.1 (claim.whole, for_record_long (length head₀) _ long ∙ claim.maps (length cells₀) room);
        job =
            λ none.
            let found = none_refused.0 none in
            let job = mapped_by text (length head₀) (length cells₀) found.0 found.1 in
            (job.0, job.1.taken);
        agree = agree;
      }

pub calls_agree : Demand3OfCalls
calls_agree = agree_all
