-- The round trips of the calls, from those of listings: what one call leaves in its buffers is what the next one reads.
use Prim.Native.Nat.{ℕ, ◌/◌, ◌-◌, ◌≤◌}
use mathlib.Core.Path.{◌≡◌, refl, sym, ap, ◌∙◌}
use mathlib.Core.Bool.{true, not}
use mathlib.Core.List.{List, [], ◌++◌}
use lib.ListN.{length, take, drop, length-take}
use lib.Seq.{take_at}
use lib.Dec.{eqb, leb, ltb}
use borrow.Author.Tests.{ltb-false, not-false}
use Rattle.common.specs.Limits.{max_outputs}
use Rattle.common.specs.Lists.{padded, zeros, all_of}
use Rattle.common.specs.Outcome.{Outcome, done, buffer_of, Answered}
use Rattle.common.proofs.Lists.{length-tab, and_right, length-padded}
use Rattle.common.proofs.Outcome.{then_done, unless_done, not_met}
use Rattle.cells.specs.declared.Crossbar.{Crossbar}
use Rattle.cells.specs.Record.{Whole, size}
use Rattle.cells.proofs.Sizes.{sound_facts}
use Rattle.jobs.proofs.Accepted.{accepted_job}
use Rattle.placement.proofs.Sound.{cells_count, outs_count}
use Rattle.conduction.specs.Light.{light}
use Rattle.listings.specs.Listing.{print}
use Rattle.listings.specs.Loading.{load}
use Rattle.listings.proofs.Loaded.{loaded_text, loaded_outs}
use Rattle.listings.proofs.Printed.{taken_padded}
use Rattle.listings.proofs.RoundTrip.{print_done, load-printed, print-load-padded}
use Rattle.crossbar.specs.Bytes.{pairs, record_length, record_bytes, record_from, holds_record}
use Rattle.crossbar.specs.Host.{packed, cells_due, for_record, of_record, host_load, host_light, host_print, MapCall, LightCall, PrintCall, LoadCall}
use Rattle.crossbar.specs.Parts.{number_part, low_part}
use Rattle.crossbar.proofs.Pairs.{record_again}
use Rattle.crossbar.proofs.Parts.{calls_read}
use Rattle.crossbar.proofs.Records.{holds_enough}
use Rattle.crossbar.proofs.ReadBack.{for_record_long, light-written, print-written}
use Rattle.agreement.specs.RoundTrips.{AreBytes, Again, RoundTrips}
use Rattle.agreement.proofs.Calls.{mapped_by}
use Rattle.conduction.proofs.Slices.{light-same}
use native.Mathlib.Omega.{arith}

-- a text that print left: its bytes are the first of the buffer, as many as the value says
record Text (o : Outcome (List ℕ)) (printed : ℕ) (text : List ℕ) : Type 0 where
  bytes : List ℕ
  outcome : o ≡ done bytes
  first : take (low_part printed) text ≡ bytes

text_left :
    (head cells text₀ : List ℕ) (printed : ℕ) (text : List ℕ)
    → PrintCall head cells text₀ printed text
    → number_part printed ≡ 0
    → Text (host_print head cells (length text₀)) printed text
unfolding buffer_of padded
text_left head cells text₀ printed text kept none =
    let read = calls_read.of_print head cells (length text₀) in
    let found = read.none_refused.0 (rw kept.answer at none) in
    let s = found.0 in
    let long : low_part printed ≡ length s = rw kept.answer (read.value_low s found.1) in
    let left : text ≡ s ++ zeros (length text₀ - length s) = kept.buffer ∙ ap (buffer_of (length text₀) (λ (t : List ℕ). t)) found.1 in
    record { bytes = s; outcome = found.1; first = rw (long, left) (take_at s _ (length s) refl) }

-- what is printed of a slice holds a record
printed_record :
    (head cells : List ℕ) (room : ℕ) (s : List ℕ)
    → host_print head cells room ≡ done s
    → (holds_record head ≡ true) × (print (record_from head) cells room ≡ done s)
unfolding host_print of_record
printed_record head cells room s h =
    let u = unless_done _ 0 (print (record_from head) cells room) s h in
    (not-false (holds_record head) (not_met 11 (not (holds_record head)) [] u.0), u.1)

-- a crossbar's text, loaded into buffers that are long enough
record LoadedAgain (x : Crossbar) (cells : List ℕ) (n m loaded : ℕ) (head₁ cells₁ : List ℕ) : Type 0 where
  none : number_part loaded ≡ 0
  value : loaded ≡ size x
  low : low_part loaded ≡ size x
  head_is : head₁ ≡ padded n (record_bytes x)
  cells_are : cells₁ ≡ padded m (take (size x) cells)

load_again :
    (x : Crossbar) (cells : List ℕ) (room : ℕ) (s head₀ cells₀ : List ℕ) (loaded : ℕ) (head₁ cells₁ : List ℕ)
    → length x.outs ≡ max_outputs
    → print x cells room ≡ done s
    → LoadCall s head₀ cells₀ loaded head₁ cells₁
    → record_length ≤ length head₀
    → size x ≤ length cells₀
    → LoadedAgain x cells (length head₀) (length cells₀) loaded head₁ cells₁
unfolding host_load buffer_of packed cells_due
load_again x cells room s head₀ cells₀ loaded head₁ cells₁ wide h kept long fits =
    let n = length head₀ in
    let m = length cells₀ in
    let w : Whole = record { head = x; codes = take (size x) cells } in
    let outcome : host_load s n m ≡ done w = for_record_long n _ long ∙ load-printed x cells room m s wide h fits in
    let read = calls_read.of_load s n m in
    let told = kept.to_record.answer in
    record {
      none = rw told (read.none_refused.1 (w, outcome));
      value = told ∙ ap (packed cells_due) outcome;
      low = rw told (read.value_low w outcome);
      head_is = kept.to_record.buffer ∙ ap (buffer_of n (λ (v : Whole). record_bytes v.head)) outcome;
      cells_are = kept.to_cells.buffer ∙ ap (buffer_of m (λ (v : Whole). v.codes)) outcome;
    }

-- a slice that holds a record is the record's bytes and zeros
record_padded : (head : List ℕ) → holds_record head ≡ true → padded (length head) (take record_length head) ≡ head
unfolding holds_record
record_padded head h =
    taken_padded record_length (length head) head refl (holds_enough head h) (and_right (leb record_length (length head)) (all_of (λ b. eqb b 0) (drop record_length head)) h)

wide_from : (head : List ℕ) → length (record_from head).outs ≡ max_outputs
unfolding record_from
wide_from head = length-tab max_outputs _

print-load :
    (head cells text₀ : List ℕ) (printed : ℕ) (text head₀ cells₀ : List ℕ) (loaded : ℕ) (head₁ cells₁ : List ℕ)
    → AreBytes head
    → PrintCall head cells text₀ printed text
    → number_part printed ≡ 0
    → LoadCall (take (low_part printed) text) head₀ cells₀ loaded head₁ cells₁
    → record_length ≤ length head₀
    → size (record_from head) ≤ length cells₀
    → Again head cells (length head₀) (length cells₀) loaded head₁ cells₁
unfolding AreBytes
print-load head cells text₀ printed text head₀ cells₀ loaded head₁ cells₁ small kept none then-kept long fits =
    let x = record_from head in
    let t = text_left head cells text₀ printed text kept none in
    let p = printed_record head cells (length text₀) t.bytes t.outcome in
    let call : LoadCall t.bytes head₀ cells₀ loaded head₁ cells₁ = rw t.first at then-kept in
    let back = load_again x cells (length text₀) t.bytes head₀ cells₀ loaded head₁ cells₁ (wide_from head) p.1 call long fits in
    let sounds = sound_facts x cells (print_done x cells (length text₀) t.bytes p.1).0 in
    let head_is : head₁ ≡ padded (length head₀) (take record_length head) =
    back.head_is ∙ ap (padded (length head₀)) (record_again head small (holds_enough head p.0)) in
    let record-filled : length head₁ ≡ length head₀ = ap length head_is ∙ length-padded (length head₀) (take record_length head) (simp length-take (omega arith)) in
    let cells-filled : length cells₁ ≡ length cells₀ = ap length back.cells_are ∙ length-padded (length cells₀) (take (size x) cells) (simp length-take (omega arith)) in
    record {
      none_refused = back.none;
      value = back.low;
      same_record = head_is;
      same-cells = back.cells_are;
      held =
          record {
            record_long = rw record-filled long;
            record_held = head_is ∙ ap (λ (k : ℕ). padded k (take record_length head)) (sym record-filled);
            cells_long = rw cells-filled fits;
            cells_held = back.cells_are ∙ ap (λ (k : ℕ). padded k (take (size x) cells)) (sym cells-filled);
          };
      whole_record = λ e. head_is ∙ ap (λ (k : ℕ). padded k (take record_length head)) e ∙ record_padded head p.0;
      whole_cells =
          λ e.
          back.cells_are
          ∙ ap (λ (k : ℕ). padded k (take (size x) cells)) e
          ∙ taken_padded (size x) (length cells) cells refl sounds.enough sounds.past;
    }

-- a crossbar that load left
record Loaded (text : List ℕ) (n m : ℕ) (head cells : List ℕ) : Type 0 where
  whole : Whole
  outcome : load text m ≡ done whole
  long : record_length ≤ n
  head_is : head ≡ padded n (record_bytes whole.head)
  cells_are : cells ≡ padded m whole.codes

loaded_by :
    (text head₀ cells₀ : List ℕ) (loaded : ℕ) (head cells : List ℕ)
    → LoadCall text head₀ cells₀ loaded head cells
    → number_part loaded ≡ 0
    → Loaded text (length head₀) (length cells₀) head cells
unfolding host_load for_record buffer_of
loaded_by text head₀ cells₀ loaded head cells kept none =
    let n = length head₀ in
    let m = length cells₀ in
    let found = (calls_read.of_load text n m).none_refused.0 (rw kept.to_record.answer at none) in
    let w = found.0 in
    let made = then_done (load text m) _ w found.1 in
    let for-record = unless_done _ 0 (done made.0) w made.2 in
    let one = for-record.1 in
    let same : made.0 ≡ w = cc in
    record {
      whole = w;
      outcome = made.1 ∙ ap done same;
      long = ltb-false n record_length (not_met 13 (ltb n record_length) [] for-record.0);
      head_is = kept.to_record.buffer ∙ ap (buffer_of n (λ (v : Whole). record_bytes v.head)) found.1;
      cells_are = kept.to_cells.buffer ∙ ap (buffer_of m (λ (v : Whole). v.codes)) found.1;
    }

load-print :
    (text head₀ cells₀ : List ℕ) (loaded : ℕ) (head cells text₀ : List ℕ) (printed : ℕ) (text₁ : List ℕ)
    → LoadCall text head₀ cells₀ loaded head cells
    → number_part loaded ≡ 0
    → PrintCall head cells text₀ printed text₁
    → length text ≤ length text₀
    → (number_part printed ≡ 0) × (low_part printed ≡ length text) × (text₁ ≡ padded (length text₀) text)
unfolding buffer_of
load-print text head₀ cells₀ loaded head cells text₀ printed text₁ kept none then-kept fits =
    let n = length head₀ in
    let m = length cells₀ in
    let room = length text₀ in
    let l = loaded_by text head₀ cells₀ loaded head cells kept none in
    let w = l.whole in
    let outcome : host_print head cells room ≡ done text =
    ap (λ (h : List ℕ). host_print h cells room) l.head_is
    ∙ print-written w.head (loaded_outs text m w l.outcome) n l.long cells room
    ∙ ap (λ (c : List ℕ). print w.head c room) l.cells_are
    ∙ print-load-padded text m room m w l.outcome fits in
    let read = calls_read.of_print head cells room in
    let told = then-kept.answer in (
      rw told (read.none_refused.1 (text, outcome)),
      rw told (read.value_low text outcome),
      then-kept.buffer ∙ ap (buffer_of room (λ (t : List ℕ). t)) outcome,
    )

load-light :
    (text head₀ cells₀ : List ℕ) (loaded : ℕ) (head cells setting firsts₀ : List ℕ) (lit : ℕ) (firsts : List ℕ)
    → LoadCall text head₀ cells₀ loaded head cells
    → number_part loaded ≡ 0
    → LightCall head cells setting firsts₀ lit firsts
    → (w : Whole)
    × (load text (length cells₀) ≡ done w)
    × Answered (light w.head w.codes setting (length firsts₀ / 2)) (packed (λ a. a.count)) (λ a. pairs a.firsts) (length firsts₀) lit firsts
load-light text head₀ cells₀ loaded head cells setting firsts₀ lit firsts kept none then-kept =
    let n = length head₀ in
    let m = length cells₀ in
    let room = length firsts₀ in
    let l = loaded_by text head₀ cells₀ loaded head cells kept none in
    let w = l.whole in
    let outcome : host_light head cells setting room ≡ light w.head w.codes setting (room / 2) =
    ap (λ (h : List ℕ). host_light h cells setting room) l.head_is
    ∙ light-written w.head (loaded_outs text m w l.outcome) n l.long cells setting room
    ∙ ap (λ (c : List ℕ). light w.head c setting (room / 2)) l.cells_are
    ∙ light-same w.head w.codes m setting (room / 2) (sound_facts w.head w.codes (loaded_text text m w l.outcome).0).enough in
    (w, l.outcome, rw outcome at then-kept)

map-print-load :
    (job head₀ cells₀ : List ℕ) (mapped : ℕ) (head cells text₀ : List ℕ) (printed : ℕ) (text head₂ cells₂ : List ℕ) (loaded : ℕ) (head₁ cells₁ : List ℕ)
    → MapCall job head₀ cells₀ mapped head cells
    → number_part mapped ≡ 0
    → PrintCall head cells text₀ printed text
    → number_part printed ≡ 0
    → LoadCall (take (low_part printed) text) head₂ cells₂ loaded head₁ cells₁
    → length head₂ ≡ length head₀
    → length cells₂ ≡ length cells₀
    → (loaded ≡ mapped) × (head₁ ≡ head) × (cells₁ ≡ cells)
unfolding buffer_of packed cells_due padded
map-print-load job head₀ cells₀ mapped head cells text₀ printed text head₂ cells₂ loaded head₁ cells₁ kept none print-kept print-none load_kept head-long cells_long =
    let n = length head₀ in
    let m = length cells₀ in
    let room = length text₀ in
    let found = (calls_read.of_map job n m).none_refused.0 (rw kept.to_record.answer at none) in
    let w = found.0 in
    let by = mapped_by job n m w found.1 in
    let d = by.0 in
    let facts = by.1 in
    let wide : length w.head.outs ≡ max_outputs = rw facts.whole_is (outs_count d (accepted_job job d facts.taken).sizes) in
    let all : length w.codes ≡ size w.head = rw facts.whole_is (cells_count d) in
    let head_is : head ≡ padded n (record_bytes w.head) = kept.to_record.buffer ∙ ap (buffer_of n (λ (v : Whole). record_bytes v.head)) found.1 in
    let cells_are : cells ≡ padded m w.codes = kept.to_cells.buffer ∙ ap (buffer_of m (λ (v : Whole). v.codes)) found.1 in
    let t = text_left head cells text₀ printed text print-kept print-none in
    let outcome : print w.head cells room ≡ done t.bytes =
    sym (print-written w.head wide n facts.long cells room)
    ∙ ap (λ (h : List ℕ). host_print h cells room) (sym head_is)
    ∙ t.outcome in
    let call : LoadCall t.bytes head₂ cells₂ loaded head₁ cells₁ = rw t.first at load_kept in
    let fits : size w.head ≤ length cells₂ = rw (cells_long, facts.whole_is) facts.fits in
    let back = load_again w.head cells room t.bytes head₂ cells₂ loaded head₁ cells₁ wide outcome call (rw head-long facts.long) fits in
    let front : take (size w.head) cells ≡ w.codes = rw cells_are (take_at w.codes _ (size w.head) all) in (
      back.value ∙ sym (kept.to_record.answer ∙ ap (packed cells_due) found.1),
      back.head_is ∙ ap (λ (k : ℕ). padded k (record_bytes w.head)) head-long ∙ sym head_is,
      back.cells_are ∙ ap (padded (length cells₂)) front ∙ ap (λ (k : ℕ). padded k w.codes) cells_long ∙ sym cells_are,
    )

pub round_trips : RoundTrips
round_trips =
    record { print-load = print-load; load-print = load-print; load-light = load-light; map-print-load = map-print-load }
