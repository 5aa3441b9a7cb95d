-- A text written part by part.
use Prim.Native.Nat.{ℕ, suc, ◌+◌, ◌≤◌, ◌<◌}
use mathlib.Core.Path.{◌≡◌, refl, sym, ap, ◌∙◌}
use mathlib.Core.List.{List, [], ◌∷◌, ◌++◌, append_assoc, append-nil}
use native.Mathlib.Omega.{arith}
use native.Mathlib.Numerals.{add-one}
use lib.ListN.{length, take, drop, get_or, length-append, length-drop, drop_of_length-le}
use lib.Seq.{drop-cons}
use borrow.Rule.Slice.PartMut.{put_mid}
use Rattle.std.specs.Prelude.{Option, Some, None}
use Rattle.std.specs.Borrow.{Bor}
use Rattle.std.proofs.lemmas.List.{length-take, nil_from_length}
use Rattle.figures.specs.Figure.{decimal}
use Rattle.figures.specs.Position.{splice}
use Rattle.figures.proofs.Writing.{length-splice, splice_nil, splice-splice, put_splice}
use Rattle.forms.specs.declared.write.Writer.{Writer}
use Rattle.forms.specs.Written.{Written, parts_text}
use Rattle.forms.specs.Wrote.{Wrote, past}

-- a text that fits and is written, and none
pub written_there : {s t w : List ℕ} {at n : ℕ} → at + length w ≤ length s → n ≡ at + length w → t ≡ splice s at w → Written s t at w (Some n)
written_there {s} {t} {w} {at} {n} h e d =
    record { kept = ap length d ∙ length-splice s at w h; within = λ m k. (cc, d); beyond = λ k. absurd cc }

-- a part of a text that is written whole
pub written_cut : {s w x : List ℕ} {at k n : ℕ} → at + length w ≤ length s → n ≡ at + length w → k ≡ length w → x ≡ w → Written s (put_mid at k s x) at w (Some n)
written_cut {s} {w} {x} {at} {k} h e l d = written_there h e (put_splice s w x at k d l)

pub written_none : (s : List ℕ) (at : ℕ) → Written s s at [] (Some at)
written_none s at =
    record {
      kept = refl;
      within = λ n k. let e : at ≡ n = cc in (omega arith, sym (splice_nil s at));
      beyond = λ k. absurd cc;
    }

-- what is written fits
spliced : (s w : List ℕ) (at : ℕ) → length (splice s at w) ≡ length s → at ≤ length s → at + length w ≤ length s
unfolding splice
spliced s w at e h = omega (arith, e, length-append (take at s ++ w) (drop (at + length w) s), length-append (take at s) w, length-take at s, length-drop (at + length w) s)

pub written_fits : {s t w : List ℕ} {at n : ℕ} → Written s t at w (Some n) → at ≤ length s → n ≤ length s
written_fits {s} {t} {w} {at} {n} f h =
    let a = f.within n refl in
    let q : n ≡ at + length w = a.0 in
    omega (arith, spliced s w at (ap length (sym a.1) ∙ f.kept) h)

pub written_ends : {s t w : List ℕ} {at n : ℕ} {r : Option ℕ} → Written s t at w r → r ≡ Some n → at ≤ length s → n ≤ length t
written_ends {s} {t} {w} {at} {n} f e h =
    let g : Written s t at w (Some n) = rw (← e) f in
    omega (arith, g.kept, written_fits g h)

-- two texts, the second where the first ends, are one text
pub written_then : {s t u v w : List ℕ} {at n : ℕ} {r : Option ℕ} → at ≤ length s → Written s t at v (Some n) → Written t u n w r → Written s u at (v ++ w) r
written_then {s} {t} {u} {v} {w} {at} {n} {r} h f g =
    let a = f.within n refl in
    let q : n ≡ at + length v = a.0 in
    let l : length t ≡ length s = f.kept in
    let k : length (v ++ w) ≡ length v + length w = length-append v w in
    record {
      kept = g.kept ∙ l;
      within = λ m e.
          let b = g.within m e in
          let p : m ≡ n + length w = b.0 in
          (omega arith, b.1 ∙ rw (a.1, q) (splice-splice s at v w h));
      beyond = λ e. let b : length t < n + length w = g.beyond e in omega arith;
    }

-- where a text does not fit, what would follow it does not either
pub written_stop : {s t v : List ℕ} {at : ℕ} (w : List ℕ) → Written s t at v None → Written s t at (v ++ w) None
written_stop {s} {t} {v} {at} w f =
    let b : length s < at + length v = f.beyond refl in
    record { kept = f.kept; within = λ n e. absurd cc; beyond = λ e. omega (arith, length-append v w) }

-- a writer that writes a text that fits, and none
pub wrote_there : {s t : Writer} {w : List ℕ} → t.out.ghost_name ≡ s.out.ghost_name → Written s.out.now t.out.now s.written w (Some t.written) → Wrote s t w (Some tt)
unfolding past
wrote_there e h = record { same = e; bytes = h; full = λ k. absurd cc }

pub wrote_none : (s : Writer) → Wrote s s [] (Some tt)
unfolding past
wrote_none s = record { same = refl; bytes = written_none s.out.now s.written; full = λ k. absurd cc }

-- the same text, said otherwise
pub wrote_as : {s t : Writer} {v w : List ℕ} {r : Option Unit} → v ≡ w → Wrote s t w r → Wrote s t v r
wrote_as e h = rw e h

pub wrote_empty : (s : Writer) (w : List ℕ) → w ≡ [] → Wrote s s w (Some tt)
wrote_empty s w e = rw e (wrote_none s)

pub ruleset line_rules = (wrote_as, wrote_empty, append_assoc)

pub wrote_then : {s t u : Writer} {v w : List ℕ} {r : Option Unit} → Wrote s t v (Some tt) → Wrote t u w r → Wrote s u (v ++ w) r
unfolding past
wrote_then {s = s} f g = record { same = g.same ∙ f.same; bytes = written_then s.fits f.bytes g.bytes; full = g.full }

-- where a text does not fit, what would follow it does not either
pub wrote_stop : {s t : Writer} {v : List ℕ} (w : List ℕ) → Wrote s t v None → Wrote s t (v ++ w) None
unfolding past
wrote_stop w f = record { same = f.same; bytes = written_stop w f.bytes; full = f.full }

-- what the buffer of a writer holds once the writer is gone
pub wrote_at : {s t : Writer} {o u w : List ℕ} {at : ℕ} {r : Option Unit} {q : Option ℕ} → Wrote s t w r → s.written ≡ at → s.out.now ≡ o → u ≡ t.out.now → q ≡ past r t.written → Written o u at w q
wrote_at {s} {t} {o} {u} {w} {at} {r} {q} h z e f k = rw (← z, ← e, f, k) h.bytes

pub wrote_whole : {s t : Writer} {o u w : List ℕ} {r : Option Unit} {q : Option ℕ} → Wrote s t w r → s.written ≡ 0 → s.out.now ≡ o → u ≡ t.out.now → q ≡ past r t.written → Written o u 0 w q
wrote_whole = wrote_at

-- a text `whole` is being written by a writer that was s: it is t now, and once it writes `rest`, the whole is written
pub record Going (s : Writer) (whole : List ℕ) (t : Writer) (rest : List ℕ) : Type 0 where
  pub goes : (u : Writer) (r : Option Unit) → Wrote t u rest r → Wrote s u whole r

pub going_start : (s : Writer) (whole : List ℕ) → Going s whole s whole
going_start s whole = record { goes = λ u r h. h }

-- the same rest, said otherwise
pub going_as : {s t : Writer} {whole r rest : List ℕ} → Going s whole t r → r ≡ rest → Going s whole t rest
going_as g e = rw (sym e) g

-- a part more is written
pub going_part : {s t u : Writer} {whole w r rest : List ℕ} → Going s whole t r → r ≡ w ++ rest → Wrote t u w (Some tt) → Going s whole u rest
going_part g e h = record { goes = λ v r k. g.goes v r (wrote_as e (wrote_then h k)) }

-- a part does not fit
pub going_stop : {s t u : Writer} {whole w r : List ℕ} {q : Option Unit} (rest : List ℕ) → Going s whole t r → r ≡ w ++ rest → Wrote t u w None → q ≡ None → Wrote s u whole q
going_stop rest g e h z = rw z (g.goes _ None (wrote_as e (wrote_stop rest h)))

-- the last part is written or does not fit
pub going_last : {s t u : Writer} {whole w : List ℕ} {r : Option Unit} → Going s whole t w → Wrote t u w r → Wrote s u whole r
going_last g h = g.goes _ _ h

-- nothing is left
pub going_end : {s t : Writer} {whole r : List ℕ} → Going s whole t r → r ≡ [] → Wrote s t whole (Some tt)
going_end {t = t} g e = g.goes t (Some tt) (wrote_as e (wrote_none t))

-- one part of a line more, and none
pub part_more :
    (ps : List (Bor (List ℕ) × ℕ)) (p : Bor (List ℕ) × ℕ) (i : ℕ) (last : List ℕ)
    → i < length ps
    → parts_text (drop i ps) last ≡ ((get_or ps i p).0.now ++ decimal (get_or ps i p).1) ++ parts_text (drop (i + 1) ps) last
unfolding parts_text
part_more ps p i last h =
    let e : i + 1 ≡ suc i = add-one i in
    rw (drop-cons ps i p h, e, append_assoc) refl

pub parts_none : (ps : List (Bor (List ℕ) × ℕ)) (last : List ℕ) (i : ℕ) → length ps ≤ i → parts_text (drop i ps) last ≡ last
unfolding parts_text
parts_none ps last i h = rw (drop_of_length-le ps h) refl
