-- What a program hands over for a text that was written into a clear buffer, and the readings part by part.
use Prim.Native.Nat.{ℕ, ◌+◌, ◌-◌, ◌≤◌, ◌<◌}
use mathlib.Core.Path.{◌≡◌, refl, sym, ◌∙◌}
use mathlib.Core.List.{List, [], ◌∷◌, ◌++◌}
use native.Mathlib.Omega.{arith}
use native.Mathlib.Numerals.{add-one}
use lib.ListN.{length, get_or, take, drop, length-append, length-replicate, drop_of_length-le}
use lib.Seq.{drop-cons, take_at}
use borrow.Author.Tests.{le-ltb, lt-ltb, ne_eqb}
use Rattle.std.specs.Prelude.{Option, Some, None, MatchOption, Result, Ok, Err, MatchResult}
use Rattle.common.specs.declared.Refusal.{Refusal}
use Rattle.common.specs.Lists.{bit, zeros, padded}
use Rattle.common.specs.Outcome.{Outcome, done, refused, lowest, unless, value_of, buffer_of, Answered}
use Rattle.forms.specs.Template.{line}
use Rattle.forms.specs.Forms.{reads_form}
use Rattle.forms.specs.Written.{Written}
use Rattle.forms.proofs.Parts.{written_fits}
use Rattle.figures.proofs.Writing.{splice-zeros}
use Rattle.programs.specs.Programs.{reading, reads_lines}
use Rattle.programs.specs.Texts.{in_room, whole_or_none, Said, refusal_line, Untold}

pub room_fits : (room n : ℕ) (s : List ℕ) → n ≤ room → in_room room n s ≡ done s
unfolding in_room lowest unless
room_fits room n s h = rw (le-ltb room n h)

pub room_short : (room n : ℕ) (s : List ℕ) → room < n → in_room room n s ≡ refused 14 0
unfolding in_room lowest unless
room_short room n s h = rw (lt-ltb room n h)

-- the text of what was said, said otherwise
pub said_as : (room n : ℕ) (out s t : List ℕ) → s ≡ t → Said room s n out → Said room t n out
said_as room n out s t e h = rw (← e) h

-- what an output reads, by the number of its row
pub reading-lit : (firsts : List ℕ) (r : ℕ) → (get_or firsts r 0 ≡ 0 → ⊥) → 1 ≡ reading firsts r
unfolding reading bit
reading-lit firsts r h = rw (ne_eqb (get_or firsts r 0) 0 h)

pub reading_dark : (firsts : List ℕ) (r : ℕ) → get_or firsts r 0 ≡ 0 → 0 ≡ reading firsts r
unfolding reading bit
reading_dark firsts r h = rw h

pub ruleset lit_or_dark = (reading-lit, reading_dark)

-- the outputs from one on, and none
pub reads_more :
    (firsts rows : List ℕ) (j : ℕ)
    → j < length rows
    → reads_lines firsts j (drop j rows) ≡ line reads_form (j ∷ reading firsts (get_or rows j 0) ∷ []) ++ reads_lines firsts (j + 1) (drop (j + 1) rows)
unfolding reads_lines
reads_more firsts rows j h = rw (drop-cons rows j 0 h, add-one j)

pub reads_none : (firsts rows : List ℕ) (j : ℕ) → length rows ≤ j → reads_lines firsts j (drop j rows) ≡ []
unfolding reads_lines
reads_none firsts rows j h = rw (drop_of_length-le rows h)

-- a text that was written into a clear buffer: what is handed over where it fits, and where it does not
pub said_written :
    (room : ℕ) (t s out : List ℕ) (n : ℕ) (past : Option ℕ)
    → Written (zeros room) t 0 s past
    → MatchOption past ((n ≡ 0) × (out ≡ zeros room)) (λ m. (n ≡ m) × (out ≡ t))
    → Said room s n out
unfolding whole_or_none value_of buffer_of
said_written room t s out n (Some m) w e =
    let b = w.within m refl in
    let q : m ≡ length s = b.0 ∙ omega arith in
    let f = room_fits room (length s) s (omega (arith, written_fits w (omega arith), length-replicate {A = ℕ} room 0)) in
    record { answer = e.0 ∙ q ∙ rw f; buffer = e.1 ∙ b.1 ∙ splice-zeros room s ∙ rw f }
said_written room t s out n None w e =
    let f = room_short room (length s) s (omega (arith, w.beyond refl, length-replicate {A = ℕ} room 0)) in
    record { answer = e.0 ∙ rw f; buffer = e.1 ∙ rw f }

-- what was handed over before a refusal was printed, and the refusal's line in its place
pub untold_said :
    (room : ℕ) (t before after : List ℕ) (n : ℕ) (r : Result ℕ Refusal)
    → Untold room t r before
    → MatchResult r (λ m. (n ≡ m) × (after ≡ before)) (λ e. Said room (refusal_line e) n after)
    → Said room t n after
untold_said room t before after n (Ok m) u e = rw (e.0, e.1) u
untold_said room t before after n (Err q) u e = rw u at e

-- the count lies within the buffer, and that many bytes of it are the text where it fits
pub said_within : (room n : ℕ) (s out : List ℕ) → Said room s n out → n ≤ length out
unfolding value_of buffer_of padded
said_within room n s out h = by (whole_or_none room s) h
  where
    by : (o : Outcome (List ℕ)) → Answered o (λ o. value_of {B = ℕ} 0 length o) (λ (t : List ℕ). t) room n out → n ≤ length out
    by (done t) a = rw (a.answer, a.buffer, length-append) (omega arith)
    by (refused k l) a = rw a.answer (omega arith)

pub said_whole : (room n : ℕ) (s out : List ℕ) → whole_or_none room s ≡ done s → Said room s n out → take n out ≡ s
unfolding value_of buffer_of padded
said_whole room n s out e h =
    let k : n ≡ length s = h.answer ∙ rw e in
    let b : out ≡ s ++ zeros (room - length s) = h.buffer ∙ rw e in
    rw b (take_at s (zeros (room - length s)) n (sym k))
