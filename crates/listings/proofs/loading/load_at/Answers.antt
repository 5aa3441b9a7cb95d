-- `listings::loading::load_at` meets its contract: what the reader of lines answers, and zeros in the buffer after a refusal.
use mathlib.Core.Path.{sym, ◌∙◌}
use borrow.Author.Rules.{rules}
use Rattle.listings.proofs.Loads.{answers_refused, answers_done}
use Rattle.listings.proofs.loading.load_at.Goals as goal

pub returns-then-is_err : goal.returns-then-is_err
returns-then-is_err c =
    answers_refused _ (λ w. w.head) _ _ c.load_lines-loaded.ensures.answer _ (sym c.is_err.ensures.value ∙ c.if-is_err.true) (search rules)

pub returns-else-is_err : goal.returns-else-is_err
returns-else-is_err c =
    answers_done _ (λ w. w.head) _ _ c.load_lines-loaded.ensures.answer _ (sym c.is_err.ensures.value ∙ c.if-is_err.false)
    c.load_lines-loaded.ensures.filled
