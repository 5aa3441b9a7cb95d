-- The starred sheets of document 01 hold of the definitions, and demand 3 and the round trips speak of sheet A: each entry's two sides
-- are computed and compared.
use mathlib.Core.Path.{◌≡◌, refl}
use mathlib.Core.Bool.{true}
use mathlib.Core.List.{List, [], ◌∷◌, map}
use native.Mathlib.Omega.{arith}
use Prim.Native.Nat.{ℕ}
use lib.ListN.{length, take}
use lib.Dec.{leb}
use borrow.Author.Tests.{leb-true}
use Rattle.common.specs.Lists.{zeros, padded}
use Rattle.common.specs.Outcome.{done}
use Rattle.diagram.specs.Diagram.{Diagram}
use Rattle.jobs.specs.Job.{accepted}
use Rattle.cells.specs.Record.{size}
use Rattle.crossbar.specs.Bytes.{record_length, number_at, record_from}
use Rattle.crossbar.specs.Host.{MapCall, LightCall, PrintCall, LoadCall}
use Rattle.crossbar.specs.Parts.{number_part, low_part}
use Rattle.agreement.specs.Calls.{in_buffers, BuffersAgree}
use Rattle.agreement.specs.Demand3.{Demand3, Reads, stands_on}
use Rattle.agreement.specs.RoundTrips.{AreBytes, Again}
use Rattle.agreement.specs.Sheets.{Sheet, numbers, refusal, lamp, job_a, listing_a, job_e, job_f, job_g, listing_h, sheets}
use Rattle.agreement.proofs.Calls.{calls_agree}
use Rattle.agreement.proofs.Demand3.{demand_3}
use Rattle.agreement.proofs.RoundTrips.{round_trips}

-- sheet A as a diagram
unfoldable pub diagram_a : Diagram
diagram_a =
    record {
      switches = 2;
      one = 1;
      nodes = record { x = 1; l = 0; h = 1; t = 2 } ∷ record { x = 0; l = 0; h = 2; t = 1 } ∷ [];
      outs = 3 ∷ [];
    }

-- what `crossbar_map` leaves for it in 128 bytes for the record, which are R, C, V, K and the output row, and in 4 bytes for the cells
unfoldable pub head_a : List ℕ
head_a = padded 128 (2 ∷ 0 ∷ 1 ∷ 0 ∷ 2 ∷ 0 ∷ 1 ∷ 0 ∷ 1 ∷ 0 ∷ [])

unfoldable pub cells_a : List ℕ
cells_a = 4 ∷ 2 ∷ 0 ∷ 0 ∷ []

-- the setting of sheet B, and what `crossbar_light` then leaves in 7 bytes: the numbers of both rows and of the column, two bytes each, and
-- the last byte 0
unfoldable pub setting_b : List ℕ
setting_b = 1 ∷ 1 ∷ []

unfoldable pub firsts_b : List ℕ
firsts_b = 1 ∷ 0 ∷ 3 ∷ 0 ∷ 2 ∷ 0 ∷ 0 ∷ []

-- what `crossbar_print` leaves for that crossbar in 128 bytes
unfoldable pub text_a : List ℕ
text_a = padded 128 listing_a

-- every definition between a text and what is printed is opened, so that all sides compute
record Computed : Type 0 where
  table : map (λ (s : Sheet). s.given) sheets ≡ map (λ (s : Sheet). s.wanted) sheets
  taken : accepted job_a ≡ done diagram_a
  maps : MapCall job_a (zeros 128) (zeros 4) 2 head_a cells_a
  lights : LightCall head_a cells_a setting_b (zeros 7) 2 firsts_b
  none_refused : number_part 2 ≡ 0
  lit : number_at firsts_b (stands_on (in_buffers head_a cells_a) 0) ≡ 3
  in_bytes : AreBytes head_a
  prints : PrintCall head_a cells_a (zeros 128) (length listing_a) text_a
  none_refused_by_print : number_part (length listing_a) ≡ 0
  loads : LoadCall (take (low_part (length listing_a)) text_a) (zeros 128) (zeros 4) 2 head_a cells_a
  record_room : leb record_length 128 ≡ true
  cells_room : leb (size (record_from head_a)) 4 ≡ true

computed : Computed
unfolding head_a cells_a setting_b firsts_b text_a AreBytes number_part low_part in_buffers Rattle.crossbar.specs.Host.host_print Rattle.crossbar.specs.Host.host_load Rattle.listings.specs.Listing.print Rattle.crossbar.specs.Bytes.number_at Rattle.crossbar.specs.Bytes.record_from Rattle.crossbar.specs.Bytes.holds_record Rattle.crossbar.specs.Host.of_record Rattle.crossbar.specs.Host.host_light Rattle.common.specs.Outcome.buffer_of Rattle.crossbar.specs.Bytes.record_length Rattle.crossbar.specs.Bytes.numbers_of Rattle.crossbar.specs.Bytes.pairs Rattle.crossbar.specs.Bytes.record_bytes Rattle.crossbar.specs.Host.packed Rattle.crossbar.specs.Host.for_record Rattle.crossbar.specs.Host.cells_due Rattle.crossbar.specs.Host.host_map numbers refusal lamp job_a diagram_a listing_a job_e job_f job_g listing_h sheets Rattle.cells.specs.Code.code_of Rattle.cells.specs.Code.cell_of Rattle.cells.specs.Conducts.conducts Rattle.cells.specs.Conducts.joins Rattle.cells.specs.Record.size Rattle.cells.specs.Record.in_range Rattle.cells.specs.Record.sound Rattle.cells.specs.Setting.is_setting Rattle.common.specs.Limits.max_rows Rattle.common.specs.Limits.max_columns Rattle.common.specs.Limits.max_switches Rattle.common.specs.Limits.max_nodes Rattle.common.specs.Limits.max_outputs Rattle.common.specs.Limits.max_input Rattle.common.specs.Lists.bit Rattle.common.specs.Lists.padded Rattle.common.specs.Lists.tab Rattle.common.specs.Lists.grid Rattle.common.specs.Lists.some_below Rattle.common.specs.Lists.all_of Rattle.common.specs.Lists.any_of Rattle.common.specs.Lists.same Rattle.common.specs.Outcome.◌then◌ Rattle.common.specs.Outcome.lowest Rattle.common.specs.Outcome.unless Rattle.common.specs.Outcome.number_of Rattle.common.specs.Outcome.line_of Rattle.common.specs.Outcome.value_of Rattle.conduction.specs.Light.joined Rattle.conduction.specs.Light.lit_by Rattle.conduction.specs.Light.light Rattle.conduction.specs.Round.lit Rattle.conduction.specs.Round.start Rattle.conduction.specs.Round.round Rattle.conduction.specs.Round.rounds Rattle.conduction.specs.Round.at_rest Rattle.conduction.specs.Round.first_rest Rattle.conduction.specs.Round.round_count Rattle.conduction.specs.Round.first_among Rattle.conduction.specs.Round.first_round Rattle.conduction.specs.Round.first_rounds Rattle.diagram.specs.Diagram.terminal Rattle.diagram.specs.Diagram.entries Rattle.diagram.specs.Diagram.entry Rattle.diagram.specs.Diagram.id_count Rattle.diagram.specs.Diagram.bare Rattle.diagram.specs.Diagram.with_node Rattle.diagram.specs.Diagram.with_out Rattle.diagram.specs.Faults.head_fault Rattle.diagram.specs.Faults.one_fault Rattle.diagram.specs.Faults.unordered Rattle.diagram.specs.Faults.same_test Rattle.diagram.specs.Faults.alike Rattle.diagram.specs.Faults.node_fault Rattle.diagram.specs.Faults.out_fault Rattle.diagram.specs.Walk.step Rattle.diagram.specs.Walk.steps Rattle.diagram.specs.Walk.walk_end Rattle.diagram.specs.Walk.walk_value Rattle.diagram.specs.Wires.has_row Rattle.diagram.specs.Wires.has_column Rattle.diagram.specs.Wires.owners Rattle.diagram.specs.Wires.row_owners Rattle.diagram.specs.Wires.column_owners Rattle.diagram.specs.Wires.row_of Rattle.diagram.specs.Wires.column_of Rattle.diagram.specs.Wires.names_zero Rattle.diagram.specs.Wires.row_count Rattle.diagram.specs.Wires.column_count Rattle.diagram.specs.Wires.too_large Rattle.figures.specs.Bytes.bytes Rattle.figures.specs.Bytes.after Rattle.figures.specs.Figure.is_digit Rattle.figures.specs.Figure.digits_of Rattle.figures.specs.Figure.is_figure Rattle.figures.specs.Figure.number_from Rattle.figures.specs.Figure.take_figure Rattle.figures.specs.Figure.digits Rattle.figures.specs.Figure.decimal Rattle.figures.specs.Line.onto Rattle.figures.specs.Line.lines_of Rattle.figures.specs.Line.follows Rattle.forms.specs.Due.due Rattle.forms.specs.Form.placed Rattle.forms.specs.Forms.job_form Rattle.forms.specs.Forms.one_form Rattle.forms.specs.Forms.node_form Rattle.forms.specs.Forms.out_form Rattle.forms.specs.Forms.out_lines Rattle.forms.specs.Forms.end_form Rattle.forms.specs.Forms.crossbar_form Rattle.forms.specs.Forms.on_form Rattle.forms.specs.Forms.yes_form Rattle.forms.specs.Forms.no_form Rattle.forms.specs.Forms.refused_form Rattle.forms.specs.Forms.rounds_form Rattle.forms.specs.Forms.reads_form Rattle.forms.specs.Forms.set_figures Rattle.forms.specs.Forms.set_form Rattle.forms.specs.Template.label_of Rattle.forms.specs.Template.letter_of Rattle.forms.specs.Template.values Rattle.forms.specs.Template.written Rattle.forms.specs.Template.line Rattle.jobs.specs.Job.size_tested Rattle.jobs.specs.Job.accepted Rattle.jobs.specs.Job.walk Rattle.jobs.specs.Reading.node_of Rattle.jobs.specs.Reading.read_end Rattle.jobs.specs.Reading.read_outs Rattle.jobs.specs.Reading.read_nodes Rattle.jobs.specs.Reading.read_one Rattle.jobs.specs.Reading.read_head Rattle.jobs.specs.Reading.read_text Rattle.listings.specs.Listing.cell_line Rattle.listings.specs.Listing.cell_lines Rattle.listings.specs.Listing.listing Rattle.listings.specs.Loading.switch_below Rattle.listings.specs.Loading.cell_fault Rattle.listings.specs.Loading.with_cell Rattle.listings.specs.Loading.out_row_fault Rattle.listings.specs.Loading.with_out_row Rattle.listings.specs.Loading.load_end Rattle.listings.specs.Loading.load_outs Rattle.listings.specs.Loading.load_cells Rattle.listings.specs.Loading.sized Rattle.listings.specs.Loading.size_fault Rattle.listings.specs.Loading.load_from Rattle.listings.specs.Loading.record_of Rattle.listings.specs.Loading.cells_of Rattle.listings.specs.Loading.load Rattle.placement.specs.Map.map_job Rattle.placement.specs.Placement.edge Rattle.placement.specs.Placement.meeting Rattle.placement.specs.Placement.code_at Rattle.placement.specs.Placement.cells Rattle.placement.specs.Placement.out_row Rattle.placement.specs.Placement.crossbar Rattle.programs.specs.Programs.program_text Rattle.programs.specs.Programs.input_fits Rattle.programs.specs.Programs.map_program Rattle.programs.specs.Programs.blanks Rattle.programs.specs.Programs.set_line Rattle.programs.specs.Programs.reading Rattle.programs.specs.Programs.reads_lines Rattle.programs.specs.Programs.readings Rattle.programs.specs.Programs.light_and_read Rattle.programs.specs.Programs.light_program
computed =
    record {
      table = refl;
      taken = refl;
      maps = record { to_record = record { answer = refl; buffer = refl }; to_cells = record { answer = refl; buffer = refl } };
      lights = record { answer = refl; buffer = refl };
      none_refused = refl;
      lit = refl;
      in_bytes = refl;
      prints = record { answer = refl; buffer = refl };
      none_refused_by_print = refl;
      loads = record { to_record = record { answer = refl; buffer = refl }; to_cells = record { answer = refl; buffer = refl } };
      record_room = refl;
      cells_room = refl;
    }

-- the table of sheets A to H
pub sheets_hold : map (λ (s : Sheet). s.given) sheets ≡ map (λ (s : Sheet). s.wanted) sheets
sheets_hold = computed.table

-- demand 3 of sheet A: its text is accepted, so the claim is about its diagram and its crossbar
pub sheet-A : Demand3 job_a diagram_a
sheet-A = demand_3 job_a diagram_a computed.taken

-- and demand 3 of the calls: map's answer for it is 2, a value, so the claim is about these bytes
pub sheet-A-calls : BuffersAgree job_a diagram_a head_a cells_a
sheet-A-calls =
    (calls_agree job_a (zeros 128) (zeros 4) 2 head_a cells_a computed.maps).agree diagram_a computed.taken computed.none_refused

-- so is that of sheet B: the number of the output's row is 3, not 0, and the output reads 1
pub sheet-B-calls : Reads (in_buffers head_a cells_a) setting_b 0
unfolding diagram_a
sheet-B-calls =
    (sheet-A-calls.shown head_a cells_a setting_b (zeros 7) 2 firsts_b 0 sheet-A-calls.held computed.lights computed.none_refused (omega arith)).0.0
    (λ z. let lit = computed.lit in omega arith)

-- and the round trips speak of sheet A: printed and loaded again, the same bytes
pub sheet-A-again : Again head_a cells_a 128 4 2 head_a cells_a
unfolding head_a
sheet-A-again =
    round_trips.print-load head_a cells_a (zeros 128) (length listing_a) text_a (zeros 128) (zeros 4) 2 head_a cells_a computed.in_bytes
    computed.prints computed.none_refused_by_print computed.loads (leb-true record_length 128 computed.record_room)
    (leb-true (size (record_from head_a)) 4 computed.cells_room)
