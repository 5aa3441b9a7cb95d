-- Document 01, "Job text": "Each line yields one form, or a refusal with its number and line".
use Rattle.std.specs.Prelude.{ℕ, true, false, List, get_or, leb}
use Rattle.std.proofs.Math.Option.{Option, some, none}
use Rattle.common.specs.declared.Fault.TheVariants as fault
use Rattle.cells.specs.declared.Cell.{Cell}
use Rattle.cells.specs.declared.Cell.TheVariants.{On, Yes, No}
use Rattle.forms.specs.declared.Form.{Form}
use Rattle.forms.specs.declared.Form.TheVariants as form
use Rattle.forms.specs.Template.{values}
use Rattle.forms.specs.Forms.{on_form, yes_form, no_form}

-- a cell line's row, column and cell
pub record Placed : Type 0 where
  pub row : ℕ
  pub column : ℕ
  pub cell : Cell

-- the cell of a line, or nothing where it is no cell line
unfoldable pub placed : List ℕ → Option Placed
placed l =
    elim (values on_form l) [
      | some vs ↦ some (record { row = get_or vs 0 0; column = get_or vs 1 0; cell = On })
      | none ↦
          elim (values yes_form l) [
            | some vs ↦ some (record { row = get_or vs 0 0; column = get_or vs 1 0; cell = Yes (get_or vs 2 0) })
            | none ↦
                elim (values no_form l) [
                  | some vs ↦ some (record { row = get_or vs 0 0; column = get_or vs 1 0; cell = No (get_or vs 2 0) })
                  | none ↦ none
                ]
          ]
    ]

-- A form's switch is a byte, so a figure above 255 is taken as 255. A crossbar has at most 64 switches: both are out of range.
unfoldable pub switch_of : ℕ → ℕ
switch_of x = elim (leb x 255) [ true ↦ x | false ↦ 255 ]

-- the form of each kind, of its values
unfoldable pub job_from : List ℕ → Form
job_from vs = form.Job (record { switches = get_or vs 0 0; nodes = get_or vs 1 0; outputs = get_or vs 2 0 })

unfoldable pub one_from : List ℕ → Form
one_from vs = form.One (get_or vs 0 0)

unfoldable pub node_from : List ℕ → Form
node_from vs =
    form.Node (record { id = get_or vs 0 0; x = get_or vs 1 0; l = get_or vs 2 0; h = get_or vs 3 0; t = get_or vs 4 0 })

unfoldable pub out_from : List ℕ → Form
out_from vs = form.Out (record { number = get_or vs 0 0; target = get_or vs 1 0 })

unfoldable pub end_from : List ℕ → Form
end_from vs = form.End

unfoldable pub size_from : List ℕ → Form
size_from vs =
    form.Size (record { rows = get_or vs 0 0; columns = get_or vs 1 0; switches = get_or vs 2 0; outputs = get_or vs 3 0 })

-- ground 1: "The line is missing or not the form due."
unfoldable pub not_due : ℕ → Form
not_due n = form.Refused (record { fault = fault.NotDue; line = n })
