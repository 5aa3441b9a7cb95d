-- `forms::last::last_line` meets its contract: the line due, and what follows it.
use mathlib.Core.Path.{sym, ap, ◌∙◌}
use Rattle.std.specs.Prelude.{Err}
use Rattle.forms.proofs.Told.{end_due, end_not}
use Rattle.forms.proofs.LastLine.{last_not, last_more, last_ends}
use Rattle.forms.proofs.last.last_line.Goals as goal

pub returns-in_default : goal.returns-in_default
returns-in_default c = ap (λ r. Err r) c.refusal_of.ensures ∙ last_not _ _ _ (end_not c.end_line-read.ensures c.in_default.not-End)

pub returns : goal.returns
returns c = last_ends _ _ _ (end_due c.end_line-read.ensures c.in-End.is) (sym c.is_empty.ensures ∙ c.if-not-is_empty.false)

pub returns-then-not-is_empty : goal.returns-then-not-is_empty
returns-then-not-is_empty c = ap (λ r. Err r) c.at.ensures ∙ last_more _ _ _ (end_due c.end_line-read.ensures c.in-End.is) (sym c.is_empty.ensures ∙ c.if-not-is_empty.true)
