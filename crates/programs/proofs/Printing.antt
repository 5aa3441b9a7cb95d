-- What each program prints, step by step: what a refusal of each call says, and what follows where it is done.
use Prim.Native.Nat.{ℕ, suc, ◌+◌, ◌-◌, ◌*◌, ◌≤◌, ◌<◌}
use mathlib.Core.Path.{◌≡◌, refl, sym, ap, ◌∙◌}
use mathlib.Core.Logic.{⊎_elim}
use mathlib.Core.Bool.{true, false, not, ◌&&◌}
use mathlib.Core.Option.{Option, some, none}
use mathlib.Core.List.{List, [], ◌∷◌, ◌++◌}
use native.Mathlib.Omega.{arith}
use lib.ListN.{length, get_or, take, length-append, length-replicate}
use lib.Dec.{leb}
use borrow.Author.Tests.{lt-ltb, le-ltb}
use Rattle.std.specs.Prelude.{Result, Ok, Err, IsErr}
use Rattle.std.specs.Result.{IsErrAnd, result_unwrap_or}
use Rattle.std.proofs.lemmas.Bool.{cases_Bool, cases_eq}
use Rattle.common.specs.declared.Fault.TheVariants as fault
use Rattle.common.specs.declared.Refusal.{Refusal}
use Rattle.common.specs.Fault.{faults, fault_of, handed}
use Rattle.common.specs.Limits.{max_rows, max_columns, max_switches, max_outputs, max_input}
use Rattle.common.specs.Lists.{zeros, padded, all_of}
use Rattle.common.specs.Outcome.{Outcome, done, refused, ◌then◌, ◌when◌, lowest, unless, most_number, value_of, buffer_of, Answered}
use Rattle.common.proofs.Faults.{number_faulted, handed_ok, handed_on}
use Rattle.common.proofs.Lists.{get_or_before_zeros}
use Rattle.common.proofs.Outcome.{then_done, unless_done}
use Rattle.common.proofs.Within.{EndsWithin, ends_done, ends_refused, then_ends, unless_ends, within, not_the_form, most_line}
use Rattle.figures.specs.Line.{Lines, left, ◌⏎◌, lines_of}
use Rattle.cells.specs.declared.Crossbar.{Crossbar}
use Rattle.cells.specs.Record.{Whole, size, sound}
use Rattle.cells.proofs.Sizes.{sound_facts}
use Rattle.forms.specs.Template.{values}
use Rattle.forms.specs.Due.{Taken}
use Rattle.forms.specs.Forms.{set_form}
use Rattle.jobs.specs.Job.{accepted}
use Rattle.jobs.proofs.Accepted.{accepted_job}
use Rattle.jobs.proofs.Steps.{passed_on}
use Rattle.placement.specs.Map.{map_job}
use Rattle.placement.specs.Placement.{cells, crossbar}
use Rattle.placement.proofs.Maps.{mapped_ends}
use Rattle.placement.proofs.Sound.{mapped-sound, cells_count}
use Rattle.conduction.specs.Round.{lit, rounds}
use Rattle.conduction.specs.Light.{Lit, joined, light}
use Rattle.conduction.proofs.Rounds.{lit_one}
use Rattle.conduction.proofs.First.{dark_byte}
use Rattle.conduction.proofs.Light.{light_answers, lit_ends}
use Rattle.conduction.proofs.Slices.{light-same}
use Rattle.listings.specs.Listing.{listing, print}
use Rattle.listings.specs.Loading.{Listed, load_from, record_of, cells_of, fitted, load_at}
use Rattle.listings.proofs.Refusals.{FewCells, listing_ends}
use Rattle.listings.proofs.RoundTrip.{print-zeros}
use Rattle.programs.specs.Programs.{program_text, input_fits, blanks, set_line, reading, reads_lines, readings, light_and_read}
use Rattle.programs.specs.Sets.{set_lines, set_readings, SameBytes}
use Rattle.programs.specs.Texts.{in_room, whole_or_none, Said, refusal_line, Untold}
use Rattle.programs.proofs.Texts.{reading-lit, reading_dark}

-- a refusal is printed as its line
refusal_told :
    {P : List ℕ → Type 0} {b : ℕ} (o : Outcome (List ℕ)) (e : Refusal)
    → EndsWithin P b o
    → handed (λ t. t) o ≡ Err e
    → refusal_line e ≡ program_text o
unfolding handed refusal_line program_text most_number
refusal_told (done t) e ends h = absurd cc
refusal_told (refused k n) e (ends_refused low high l) h =
    let is : e ≡ record { fault = fault_of k; line = n } = cc in
    rw (is, number_faulted k low high)

-- a step's refusal is handed on, and is that of the whole text
pub told_refused :
    {P : List ℕ → Type 0} {b : ℕ} (o : Outcome (List ℕ)) (room : ℕ) (out : List ℕ) (e : Refusal) (r : Result ℕ Refusal)
    → EndsWithin P b o
    → IsErr r × IsErrAnd r (λ x. x ≡ e)
    → handed (λ t. t) o ≡ Err e
    → Untold room (program_text o) r out
told_refused o room out e r ends returned h = rw (passed_on r e returned) (refusal_told o e ends h)

-- the first step of both programs
pub input_long : (s : List ℕ) (rest : Outcome (List ℕ)) (e : Refusal) → (max_input < length s) × (e ≡ record { fault = fault.NoRoom; line = 0 }) → handed (λ t. t) (input_fits s rest) ≡ Err e
unfolding input_fits lowest unless handed fault_of faults
input_long s rest e h = rw (h.1, lt-ltb max_input (length s) h.0)

pub input_short : (s : List ℕ) (rest : Outcome (List ℕ)) → length s ≤ max_input → input_fits s rest ≡ rest
unfolding input_fits lowest unless
input_short s rest h = rw (le-ltb max_input (length s) h)

input_ends : {P : List ℕ → Type 0} (s : List ℕ) (rest : Outcome (List ℕ)) → EndsWithin P most_line rest → EndsWithin P most_line (input_fits s rest)
unfolding input_fits within most_number
input_ends s rest h = unless_ends _ 0 rest refl (omega arith) (λ z. h)

-- map

-- what the first program prints, or its refusal
abbrev pub mapping : List ℕ → Outcome (List ℕ)
mapping s = map_job s (max_rows * max_columns) then λ w. done (listing w.head w.codes)

abbrev any_text : List ℕ → Type 0
any_text t = Unit

pub map_ended : (s : List ℕ) → EndsWithin any_text most_line (input_fits s (mapping s))
map_ended s = input_ends s (mapping s) (then_ends (map_job s (max_rows * max_columns)) _ (mapped_ends s (max_rows * max_columns)) (λ w m. ends_done tt))

-- a mapped crossbar passes ground 12, and has R-as-C codes
pub record Maps (w : Whole) : Type 0 where
  pub is_sound : sound w.head w.codes ≡ true
  pub count : length w.codes ≡ size w.head

pub map_maps : (s : List ℕ) (room : ℕ) (w : Whole) → map_job s room ≡ done w → Maps w
unfolding map_job
map_maps s room w h =
    let t = then_done (accepted s) _ w h in
    let u = unless_done _ 0 _ w t.2 in
    let e : ◌≡◌ {A = Outcome Whole} (done (record { head = crossbar t.0; codes = cells t.0 })) (done w) = u.1 in
    let same : ◌≡◌ {A = Whole} (record { head = crossbar t.0; codes = cells t.0 }) w = cc in
    let a = accepted_job s t.0 t.1 in
    let m : Maps (record { head = crossbar t.0; codes = cells t.0 }) =
    record { is_sound = mapped-sound t.0 a.facts a.sizes; count = cells_count t.0 }
    in
    rw same at m

-- what print hands over for a sound crossbar is its listing
print-sound : (x : Crossbar) (codes : List ℕ) (room : ℕ) → sound x codes ≡ true → print x codes room ≡ whole_or_none room (listing x codes)
unfolding print whole_or_none in_room lowest
print-sound x codes room h = rw h

-- of a buffer with zeros past the R-as-C codes; the length is 0 where the listing does not fit
handed_length : (o : Outcome (List ℕ)) (r : Result ℕ Refusal) (n : ℕ) → r ≡ handed length o → n ≡ result_unwrap_or r 0 → n ≡ value_of {B = ℕ} 0 length o
unfolding handed value_of
handed_length (done t) r n h k = rw h at k
handed_length (refused l m) r n h k = rw h at k

pub said_mapped :
    (w : Whole) (room more : ℕ) (r : Result ℕ Refusal) (n : ℕ) (out : List ℕ)
    → Maps w
    → Answered (print w.head (padded more w.codes) room) (handed length) (λ (t : List ℕ). t) room r out
    → n ≡ result_unwrap_or r 0
    → Said room (listing w.head w.codes) n out
unfolding padded
said_mapped w room more r n out m a k =
    let enough : size w.head ≤ length w.codes = omega (arith, m.count) in
    let same = print-zeros w.head w.codes (more - length w.codes) enough room ∙ print-sound w.head w.codes room m.is_sound in
    record {
      answer = handed_length (whole_or_none room (listing w.head w.codes)) r n (rw same at a.answer) k;
      buffer = rw same at a.buffer;
    }

-- after the input's length: map refuses, and map and print are done
module _ (s : List ℕ) (fits : input_fits s (mapping s) ≡ mapping s) where
  pub map_stops :
      (e : Refusal)
      → handed (λ w. w.head) (map_job s (max_rows * max_columns)) ≡ Err e
      → handed (λ t. t) (input_fits s (mapping s)) ≡ Err e
  map_stops e h = rw fits (handed_on (λ w. w.head) (λ t. t) (map_job s (max_rows * max_columns)) _ e h)

  pub map_goes :
      (x : Crossbar) (held : List ℕ)
      → handed (λ w. w.head) (map_job s (max_rows * max_columns)) ≡ Ok x
      → held ≡ buffer_of (max_rows * max_columns) (λ w. w.codes) (map_job s (max_rows * max_columns))
      → (room n : ℕ) (r : Result ℕ Refusal) (out : List ℕ)
      → Answered (print x held room) (handed length) (λ (t : List ℕ). t) room r out
      → n ≡ result_unwrap_or r 0
      → Said room (program_text (input_fits s (mapping s))) n out
  unfolding program_text ◌then◌ buffer_of
  map_goes x held h k room n r out a l =
      let d = handed_ok (λ w. w.head) (map_job s (max_rows * max_columns)) x h in
      let w : Whole = d.0 in
      let codes : held ≡ padded (max_rows * max_columns) w.codes = k ∙ ap (buffer_of (max_rows * max_columns) (λ w. w.codes)) d.1 in
      let text : program_text (input_fits s (mapping s)) ≡ listing w.head w.codes =
      ap program_text (fits ∙ ap (λ (o : Outcome Whole). o then λ v. done (listing v.head v.codes)) d.1)
      in
      rw text (said_mapped w room (max_rows * max_columns) r n out (map_maps s (max_rows * max_columns) w d.1) (rw (d.2, codes) at a) l)

-- light

-- what an output reads, and what is printed of the first rounds, with zeros past them
reading-zeros : (firsts : List ℕ) (n r : ℕ) → reading (firsts ++ zeros n) r ≡ reading firsts r
unfolding reading
reading-zeros firsts n r = rw (get_or_before_zeros firsts n r)

reads_lines-zeros : (firsts : List ℕ) (n j : ℕ) (rows : List ℕ) → reads_lines (firsts ++ zeros n) j rows ≡ reads_lines firsts j rows
unfolding reads_lines
reads_lines-zeros firsts n j [] = refl
reads_lines-zeros firsts n j (r ∷ rows) = rw (reading-zeros firsts n r, reads_lines-zeros firsts n (suc j) rows)

-- zeros past the first rounds
abbrev pub lit-padded : Lit → ℕ → Lit
lit-padded a n = record { count = a.count; firsts = padded n a.firsts }

readings-padded : (x : Crossbar) (a : Lit) (n : ℕ) → readings x (lit-padded a n) ≡ readings x a
unfolding readings padded
readings-padded x a n = rw (reads_lines-zeros a.firsts (n - length a.firsts) 0 (take x.outputs x.outs))

-- what is printed of an output is the entry of its row in the set after the rounds
reads_the_set :
    (x : Crossbar) (codes setting : List ℕ) (room : ℕ) (a : Lit) → light x codes setting room ≡ done a
    → (r : ℕ) → reading a.firsts r ≡ get_or (rounds x.rows x.columns (joined x codes setting) a.count) r 0
reads_the_set x codes setting room a done-so r =
    let answer = (light_answers x codes setting room a done-so).answer in
    let m = x.rows in
    let n = x.columns in
    let j = joined x codes setting in
    ⊎_elim
    (λ (z : get_or a.firsts r 0 ≡ 0).
    sym (reading_dark a.firsts r z) ∙ sym (dark_byte m n j a.count r ((answer.dark r).0 z)))
    (λ (some : get_or a.firsts r 0 ≡ 0 → ⊥).
    ⊎_elim
    (λ (l : lit (rounds m n j a.count) r ≡ true). sym (reading-lit a.firsts r some) ∙ sym (lit_one (rounds m n j a.count) r l))
    (λ (l : lit (rounds m n j a.count) r ≡ false). absurd (some ((answer.dark r).1 l)))
    (cases_Bool (lit (rounds m n j a.count) r)))
    (cases_eq (get_or a.firsts r 0) 0)

lines_by_set :
    (firsts set : List ℕ) → ((r : ℕ) → reading firsts r ≡ get_or set r 0) → (j : ℕ) (rows : List ℕ) → reads_lines firsts j rows ≡ set_lines set j rows
unfolding reads_lines set_lines
lines_by_set firsts set same j [] = refl
lines_by_set firsts set same j (r ∷ rows) = rw (same r, lines_by_set firsts set same (suc j) rows)

pub same_bytes : SameBytes
unfolding readings set_readings
same_bytes x codes setting room a done-so =
    rw
    (lines_by_set a.firsts (rounds x.rows x.columns (joined x codes setting) a.count) (reads_the_set x codes setting room a done-so) 0
    (take x.outputs x.outs))

-- light on a crossbar, and its readings
module _ (x : Crossbar) (codes setting : List ℕ) where
  abbrev lamp : Outcome Lit
  lamp = light x codes setting (max_rows + max_columns)

  pub light_outputs : (a : Lit) → lamp ≡ done a → x.outputs ≤ max_outputs
  light_outputs a h = (sound_facts x codes (light_answers x codes setting (max_rows + max_columns) a h).record_sound).sizes.outputs_most

  pub light_prints : (a : Lit) (firsts : List ℕ) → lamp ≡ done a → firsts ≡ padded (max_rows + max_columns) a.firsts
      → done (readings x (record { count = a.count; firsts = firsts })) ≡ light_and_read setting (record { head = x; codes = codes })
  unfolding light_and_read ◌then◌
  light_prints a firsts h e = rw (h, e) (ap done (readings-padded x a (max_rows + max_columns)))

  -- zeros past the codes
  pub light-padded :
      (n : ℕ)
      → size x ≤ length codes
      → light_and_read setting (record { head = x; codes = padded n codes }) ≡ light_and_read setting (record { head = x; codes = codes })
  unfolding light_and_read
  light-padded n h = rw (light-same x codes n setting (max_rows + max_columns) h)

  -- what light hands over is refused, and done
  light_stops : (e : Refusal) → handed (λ a. a.count) lamp ≡ Err e → handed (λ t. t) (light_and_read setting (record { head = x; codes = codes })) ≡ Err e
  unfolding light_and_read
  light_stops e h = handed_on (λ a. a.count) (λ t. t) lamp _ e h

-- the crossbar of a listing
abbrev pub whole : Listed → Whole
whole y = record { head = record_of y; codes = cells_of y }

-- its cells fit into the program's buffer, so that load adds no refusal there
module _ (t : List ℕ) where
  load_ends : EndsWithin FewCells most_line (load_from 2 (lines_of t))
  unfolding most_line
  load_ends = listing_ends most_line 2 (omega arith) (lines_of t)

  load_fits : load_at 2 (lines_of t) (max_rows * max_columns) ≡ load_from 2 (lines_of t) then λ y. done (whole y)
  unfolding ◌then◌ lowest unless size record_of
  load_fits = by (load_from 2 (lines_of t)) load_ends
    where
      by : (o : Outcome Listed) → EndsWithin FewCells most_line o → (o then λ y. fitted (max_rows * max_columns) y) ≡ (o then λ y. done (whole y))
      by (done y) (ends_done few) = rw (le-ltb (max_rows * max_columns) (size (record_of y)) few)
      by (refused k l) (ends_refused low high m) = refl

  pub load_stops :
      (next : Listed → Outcome (List ℕ)) (e : Refusal)
      → handed (λ w. w.head) (load_at 2 (lines_of t) (max_rows * max_columns)) ≡ Err e
      → handed (λ u. u) (load_from 2 (lines_of t) then next) ≡ Err e
  unfolding ◌then◌ handed
  load_stops next e h = by (load_from 2 (lines_of t)) (rw load_fits at h)
    where
      by : (o : Outcome Listed) → handed (λ w. w.head) (o then λ y. done (whole y)) ≡ Err e → handed (λ u. u) (o then next) ≡ Err e
      by (done y) h = absurd cc
      by (refused k l) h = cc

  -- the listing that was loaded
  pub record HoldsListed (x : Crossbar) (held : List ℕ) (y : Listed) : Type 0 where
    pub listed : load_from 2 (lines_of t) ≡ done y
    pub head : x ≡ record_of y
    pub cells_are : held ≡ padded (max_rows * max_columns) (cells_of y)

  pub load_goes :
      (x : Crossbar) (held : List ℕ)
      → handed (λ w. w.head) (load_at 2 (lines_of t) (max_rows * max_columns)) ≡ Ok x
      → held ≡ buffer_of (max_rows * max_columns) (λ w. w.codes) (load_at 2 (lines_of t) (max_rows * max_columns))
      → (y : Listed) × HoldsListed x held y
  unfolding ◌then◌ handed buffer_of
  load_goes x held h k = by (load_from 2 (lines_of t)) refl (rw load_fits at h) (rw load_fits at k)
    where
      by :
          (o : Outcome Listed)
          → load_from 2 (lines_of t) ≡ o
          → handed (λ w. w.head) (o then λ y. done (whole y)) ≡ Ok x
          → held ≡ buffer_of (max_rows * max_columns) (λ w. w.codes) (o then λ y. done (whole y))
          → (y : Listed) × HoldsListed x held y
      by (done y) e h k = (y, record { listed = e; head = cc; cells_are = k })
      by (refused a b) e h k = absurd cc

cells_long : (y : Listed) → size (record_of y) ≤ length (cells_of y)
unfolding size record_of cells_of padded
cells_long y = simp (length-append, length-replicate) (omega arith)

same_crossbar :
    (vs : List ℕ) (x z : Crossbar) (c d : List ℕ) {o : Outcome (List ℕ)}
    → x ≡ z
    → c ≡ d
    → light_and_read vs (record { head = z; codes = d }) ≡ o
    → o ≡ light_and_read vs (record { head = x; codes = c })
same_crossbar vs x z c d e f h = rw (e, f) (sym h)

-- the set line is refused for ground 1, or done
set_ends : (ls : Lines) → EndsWithin {A = Taken} (λ o. Unit) most_line (set_line ls)
unfolding set_line within most_number most_line
set_ends (left s) = not_the_form (omega arith)
set_ends (l ⏎ ls) = by (values (set_form (blanks l)) l) refl
  where
    by : (o : Option (List ℕ)) → values (set_form (blanks l)) l ≡ o → EndsWithin {A = Taken} (λ o. Unit) most_line (set_line (l ⏎ ls))
    by none e = rw (e, set_line) (not_the_form (omega arith))
    by (some vs) e = rw (e, set_line) (unless_ends ((1 when not (leb (length vs) max_switches && all_of (λ b. leb b 1) vs)) ∷ []) 1 _ refl (omega arith) (λ z. ends_done tt))

-- what the second program prints, or its refusal
abbrev pub lighting : List ℕ → Outcome (List ℕ)
lighting s = set_line (lines_of s) then λ o. load_from 2 o.later then λ y. light_and_read o.vals (whole y)

pub light_ended : (s : List ℕ) → EndsWithin any_text most_line (input_fits s (lighting s))
unfolding light_and_read most_line
light_ended s =
    input_ends s (lighting s)
    (then_ends (set_line (lines_of s)) _ (set_ends (lines_of s))
    (λ o p. then_ends (load_from 2 o.later) _ (listing_ends most_line 2 (omega arith) o.later)
    (λ y few. then_ends (light (record_of y) (cells_of y) o.vals (max_rows + max_columns)) _ (lit_ends (record_of y) (cells_of y) o.vals (max_rows + max_columns)) (λ a m. ends_done tt))))

-- after the input's length: the set line, load or light refuses, and all of them are done
module _ (s : List ℕ) (fits : input_fits s (lighting s) ≡ lighting s) where
  pub set_stops : set_line (lines_of s) ≡ refused 1 1 → handed (λ t. t) (input_fits s (lighting s)) ≡ Err (record { fault = fault.NotDue; line = 1 })
  unfolding ◌then◌ handed fault_of faults
  set_stops h = ap (handed (λ t. t)) fits ∙ rw h

  module _ (vs t : List ℕ) (is : set_line (lines_of s) ≡ done (record { vals = vs; later = lines_of t })) where
    set_goes : lighting s ≡ (load_from 2 (lines_of t) then λ y. light_and_read vs (whole y))
    unfolding ◌then◌
    set_goes = rw is

    pub listing_stops :
        (e : Refusal)
        → handed (λ w. w.head) (load_at 2 (lines_of t) (max_rows * max_columns)) ≡ Err e
        → handed (λ u. u) (input_fits s (lighting s)) ≡ Err e
    listing_stops e h = rw (fits, set_goes) (load_stops t (λ y. light_and_read vs (whole y)) e h)

    module _
        (x : Crossbar)
        (held : List ℕ)
        (loaded : handed (λ w. w.head) (load_at 2 (lines_of t) (max_rows * max_columns)) ≡ Ok x)
        (cells_are : held ≡ buffer_of (max_rows * max_columns) (λ w. w.codes) (load_at 2 (lines_of t) (max_rows * max_columns)))
      where
        listing_goes : lighting s ≡ light_and_read vs (record { head = x; codes = held })
        unfolding ◌then◌
        listing_goes =
            let d = load_goes t x held loaded cells_are in
            let y = d.0 in
            set_goes
            ∙ ap (λ (o : Outcome Listed). o then λ y. light_and_read vs (whole y)) d.1.listed
            ∙ same_crossbar vs x (record_of y) held (padded (max_rows * max_columns) (cells_of y)) d.1.head d.1.cells_are (light-padded (record_of y) (cells_of y) vs (max_rows * max_columns) (cells_long y))

        pub lamp_stops :
            (e : Refusal)
            → handed (λ a. a.count) (light x held vs (max_rows + max_columns)) ≡ Err e
            → handed (λ u. u) (input_fits s (lighting s)) ≡ Err e
        lamp_stops e h = rw (fits, listing_goes) (light_stops x held vs e h)

        pub lamp_goes :
            (n : ℕ) (firsts : List ℕ)
            → handed (λ a. a.count) (light x held vs (max_rows + max_columns)) ≡ Ok n
            → firsts ≡ buffer_of (max_rows + max_columns) (λ a. a.firsts) (light x held vs (max_rows + max_columns))
            → (x.outputs ≤ max_outputs) × (input_fits s (lighting s) ≡ done (readings x (record { count = n; firsts = firsts })))
        unfolding buffer_of
        lamp_goes n firsts h k =
            let d = handed_ok (λ a. a.count) (light x held vs (max_rows + max_columns)) n h in
            let a : Lit = d.0 in
            let z : firsts ≡ padded (max_rows + max_columns) a.firsts = k ∙ ap (buffer_of (max_rows + max_columns) (λ a. a.firsts)) d.1 in (
              light_outputs x held vs a d.1,
              rw d.2 (fits ∙ listing_goes ∙ sym (light_prints x held vs a firsts d.1 z)),
            )
