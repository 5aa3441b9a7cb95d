-- No program prints more than 393,728 bytes, so that the programs' buffer holds every text.
use Prim.Native.Nat.{ℕ, suc, ◌+◌, ◌*◌, ◌≤◌}
use mathlib.Core.Path.{◌≡◌, refl}
use mathlib.Core.List.{List, [], ◌∷◌}
use native.Mathlib.Omega.{arith}
use lib.ListN.{length, take, length-append, length-take, length-replicate}
use Rattle.common.specs.Limits.{max_rows, max_columns, max_outputs, max_text}
use Rattle.common.specs.Outcome.{Outcome, done, refused}
use Rattle.common.proofs.Outcome.{then_done, unless_done}
use Rattle.figures.specs.Bytes.{bytes}
use Rattle.figures.specs.Line.{lines_of}
use Rattle.figures.proofs.Writing.{length_most}
use Rattle.cells.specs.declared.Crossbar.{Crossbar}
use Rattle.cells.specs.Record.{Whole}
use Rattle.forms.specs.Template.{written, line}
use Rattle.forms.specs.Forms.{refused_form, rounds_form, reads_form}
use Rattle.placement.specs.Map.{map_job}
use Rattle.conduction.specs.Light.{Lit, light}
use Rattle.listings.specs.Listing.{listing}
use Rattle.listings.specs.Loading.{load_from}
use Rattle.listings.proofs.Lengths.{end_most, listing_most}
use Rattle.programs.specs.Programs.{program_text, input_fits, map_program, set_line, reading, reads_lines, readings, light_and_read, light_program}
use Rattle.programs.specs.Texts.{whole_or_none}
use Rattle.programs.proofs.Printing.{mapping, map_maps, light_outputs, whole, lighting}
use Rattle.programs.proofs.Texts.{room_fits}
use Rattle.common.specs.Lists.{zeros}

-- the bytes of each line
refused_most : (k n : ℕ) → length (line refused_form (k ∷ n ∷ [])) ≤ 22
unfolding line written refused_form bytes
refused_most k n = simp length-append (omega (arith, length_most k, length_most n))

rounds_most : (t : ℕ) → length (line rounds_form (t ∷ [])) ≤ 16
unfolding line written rounds_form bytes
rounds_most t = simp length-append (omega (arith, length_most t))

reads_most : (j v : ℕ) → length (line reads_form (j ∷ v ∷ [])) ≤ 20
unfolding line written reads_form bytes
reads_most j v = simp length-append (omega (arith, length_most j, length_most v))

reads_lines_most : (firsts : List ℕ) (j : ℕ) (rows : List ℕ) → length (reads_lines firsts j rows) ≤ 20 * length rows
unfolding reads_lines
reads_lines_most firsts j [] = omega arith
reads_lines_most firsts j (r ∷ rows) =
    let first = reads_most j (reading firsts r) in
    let others = reads_lines_most firsts (suc j) rows in
    simp length-append (omega arith)

-- the readings of a crossbar with at most 32 outputs
pub readings_most : (x : Crossbar) (a : Lit) → x.outputs ≤ max_outputs → length (readings x a) ≤ max_text
unfolding readings max_text max_rows max_columns max_outputs
readings_most x a h =
    let few : length (take x.outputs x.outs) ≤ x.outputs = simp length-take (omega arith) in
    let head = rounds_most a.count in
    let body = reads_lines_most a.firsts 0 (take x.outputs x.outs) in
    simp length-append (omega (arith, end_most))

-- a refusal, or a text that is done
program_text_most : (o : Outcome (List ℕ)) → ((t : List ℕ) → o ≡ done t → length t ≤ max_text) → length (program_text o) ≤ max_text
unfolding program_text max_text max_rows max_columns
program_text_most (done t) h = h t refl
program_text_most (refused k n) h = omega (arith, refused_most k n)

-- the first program
pub map_most : (s : List ℕ) → length (map_program s) ≤ max_text
unfolding map_program input_fits
map_most s = program_text_most (input_fits s (mapping s)) at_most
  where
    at_most : (t : List ℕ) → input_fits s (mapping s) ≡ done t → length t ≤ max_text
    at_most t h =
        let u = unless_done _ 0 _ t h in
        let m = then_done (map_job s (max_rows * max_columns)) _ t u.1 in
        let w : Whole = m.0 in
        let e : done (listing w.head w.codes) ≡ done t = m.2 in
        let same : listing w.head w.codes ≡ t = cc in
        rw (← same) (listing_most w.head w.codes (map_maps s (max_rows * max_columns) w m.1).is_sound)

-- the second program
light_read_most : (setting : List ℕ) (w : Whole) (t : List ℕ) → light_and_read setting w ≡ done t → length t ≤ max_text
unfolding light_and_read
light_read_most setting w t h =
    let m = then_done (light w.head w.codes setting (max_rows + max_columns)) _ t h in
    let a : Lit = m.0 in
    let e : done (readings w.head a) ≡ done t = m.2 in
    let same : readings w.head a ≡ t = cc in
    rw (← same) (readings_most w.head a (light_outputs w.head w.codes setting a m.1))

pub light_most : (s : List ℕ) → length (light_program s) ≤ max_text
unfolding light_program input_fits
light_most s = program_text_most (input_fits s (lighting s)) at_most
  where
    at_most : (t : List ℕ) → input_fits s (lighting s) ≡ done t → length t ≤ max_text
    at_most t h =
        let u = unless_done _ 0 _ t h in
        let l = then_done (set_line (lines_of s)) _ t u.1 in
        let y = then_done (load_from 2 l.0.later) _ t l.2 in
        light_read_most l.0.vals (whole y.0) t y.2

-- so each text is handed over whole into a buffer of that many bytes
pub map_whole : (s : List ℕ) (room : ℕ) → max_text ≤ room → whole_or_none room (map_program s) ≡ done (map_program s)
unfolding whole_or_none
map_whole s room h = room_fits room (length (map_program s)) (map_program s) (omega (arith, map_most s))

pub light_whole : (s : List ℕ) (room : ℕ) → max_text ≤ room → whole_or_none room (light_program s) ≡ done (light_program s)
unfolding whole_or_none
light_whole s room h = room_fits room (length (light_program s)) (light_program s) (omega (arith, light_most s))

-- a buffer of that many zeros
pub zeros_hold : max_text ≤ length (zeros max_text)
zeros_hold = rw (length-replicate {A = ℕ} max_text 0) (omega arith)
