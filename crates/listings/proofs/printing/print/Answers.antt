-- `listings::printing::print` meets its contract: the answer and the buffer, by the case of the definition.
use mathlib.Core.Path.{sym, ◌∙◌}
use borrow.Author.Rules.{rules}
use lib.ListN.{length}
use Rattle.listings.proofs.Answers.{answers-unsound, answers-long, answers-done}
use Rattle.listings.proofs.printing.print.Goals as goal

pub returns-then-not-is_sound : goal.returns-then-not-is_sound
returns-then-not-is_sound c =
    let a = c.args in
    rw c.at.ensures (answers-unsound a.x a.cells.now (length a.out.now) (sym c.is_sound.ensures ∙ c.if-not-is_sound.true) (search rules))

pub returns-in_default : goal.returns-in_default
returns-in_default c =
    let a = c.args in
    let e = sym c.is_sound.ensures ∙ c.if-not-is_sound.false in
    rw c.at-in_default.ensures (answers-long a.x a.cells.now (length a.out.now) e c.fill.new.self _ (search rules) c.in_default.ensures (search rules))

pub returns : goal.returns
returns c =
    let a = c.args in
    let e = sym c.is_sound.ensures ∙ c.if-not-is_sound.false in
    answers-done a.x a.cells.now (length a.out.now) e c.fill.new.self _ (search rules) _ c.in-Some.ensures
