-- What a reader that was handed a form knows of the line due, and of the lines after it.
use Prim.Native.Nat.{ℕ}
use mathlib.Core.Path.{◌≡◌, refl, sym, ap, ◌∙◌}
use mathlib.Core.Option.{Option, some, none}
use mathlib.Core.List.{List, [], ◌∷◌}
use Rattle.common.specs.declared.Fault.TheVariants as fault
use Rattle.common.specs.Fault.{fault_of, faults}
use Rattle.common.specs.Outcome.{done, refused}
use Rattle.figures.specs.Line.{Lines, left, ◌⏎◌, lines_of}
use Rattle.forms.specs.declared.Form.{Form}
use Rattle.forms.specs.declared.Form.TheVariants as form
use Rattle.forms.specs.declared.JobForm.{JobForm}
use Rattle.forms.specs.declared.NodeForm.{NodeForm}
use Rattle.forms.specs.declared.OutForm.{OutForm}
use Rattle.forms.specs.declared.SizeForm.{SizeForm}
use Rattle.forms.specs.declared.CellForm.{CellForm}
use Rattle.forms.specs.Template.{Template, values}
use Rattle.forms.specs.Due.{Taken, due}
use Rattle.forms.specs.Form.{Placed, placed, job_from, one_from, node_from, out_from, end_from, size_from, not_due}
use Rattle.forms.specs.Forms.{job_form, one_form, node_form, out_form, end_form, crossbar_form}
use Rattle.forms.specs.Read.{form_of, LineIs, placed_in, placed_form, CellIs, capped_cell, refusal_in}
use Rattle.forms.proofs.Template.{FitsTemplate, due_fits, job_values, one_values, node_values, out_values, end_values, crossbar-values}

-- the line due has the values vs, and the lines after it are those of rest
abbrev pub IsDue : Template → ℕ → List ℕ → List ℕ → List ℕ → Type 0
IsDue t n s vs rest = due t n (lines_of s) ≡ done (record { vals = vs; later = lines_of rest })

-- the line is not the form due, and a form g holds the refusal
abbrev pub IsNotDue : Template → ℕ → List ℕ → Form → Type 0
IsNotDue t n s g = (due t n (lines_of s) ≡ refused 1 n) × (refusal_in n g ≡ record { fault = fault.NotDue; line = n })

-- a line is the one due, or it is refused
data Told (t : Template) (f : List ℕ → Form) (n : ℕ) (s : List ℕ) (g : Form) (rest : List ℕ) : Type 0 where
  found : (vs : List ℕ) → g ≡ f vs → FitsTemplate t vs → IsDue t n s vs rest → Told t f n s g rest
  missing : g ≡ not_due n → due t n (lines_of s) ≡ refused 1 n → Told t f n s g rest

module _ {t : Template} {f : List ℕ → Form} {n : ℕ} {s rest : List ℕ} {g : Form} (is : LineIs t f n s g rest) where
  not_found : due t n (lines_of s) ≡ refused 1 n → Told t f n s g rest
  unfolding form_of not_due fault_of faults
  not_found d = missing (is.yields ∙ ap (form_of f) d) d

  is_found : (o : Taken) → due t n (lines_of s) ≡ done o → Told t f n s g rest
  unfolding form_of
  is_found o d = found o.vals (is.yields ∙ ap (form_of f) d) (due_fits t n (lines_of s) o d) (d ∙ rw (← (is.leaves o d)))

  told : Told t f n s g rest
  unfolding due
  told = by (lines_of s) refl
    where
      by : (ls : Lines) → lines_of s ≡ ls → Told t f n s g rest
      by (left r) e = not_found (rw e)
      by (l ⏎ ls) e = by_values (values t l) refl
        where
          by_values : (v : Option (List ℕ)) → values t l ≡ v → Told t f n s g rest
          by_values none h = not_found (rw (e, h, due))
          by_values (some vs) h = is_found (record { vals = vs; later = ls }) (rw (e, h, due))

  -- a form that no values give is the refusal
  told_not : ((vs : List ℕ) → FitsTemplate t vs → g ≡ f vs → ⊥) → IsNotDue t n s g
  unfolding refusal_in not_due
  told_not other = by told
    where
      by : Told t f n s g rest → IsNotDue t n s g
      by (found vs y fits d) = absurd (other vs fits y)
      by (missing y d) = (d, rw y)

  -- a form that is no refusal holds the values
  told_due : (vs : List ℕ) → (g ≡ not_due n → ⊥) → ((us : List ℕ) → FitsTemplate t us → g ≡ f us → us ≡ vs) → IsDue t n s vs rest
  told_due vs no_refusal same = by told
    where
      by : Told t f n s g rest → IsDue t n s vs rest
      by (found us y fits d) = d ∙ rw (same us fits y)
      by (missing y d) = absurd (no_refusal y)

-- Each kind of line: what its form says of the line due, and what any other form does.
module _ {n : ℕ} {s rest : List ℕ} {g : Form} where
  pub job_due : {f : JobForm} → LineIs job_form job_from n s g rest → g ≡ form.Job f → IsDue job_form n s (f.switches ∷ f.nodes ∷ f.outputs ∷ []) rest
  unfolding job_from not_due
  job_due is e = told_due is _ (λ z. absurd cc) (λ us fits y. let k = (job_values us fits).0 in let q = sym e ∙ y in cc)

  pub job_not : LineIs job_form job_from n s g rest → ((f : JobForm) → g ≡ form.Job f → ⊥) → IsNotDue job_form n s g
  unfolding job_from
  job_not is other = told_not is (λ vs fits y. other _ y)

  pub one_due : {t : ℕ} → LineIs one_form one_from n s g rest → g ≡ form.One t → IsDue one_form n s (t ∷ []) rest
  unfolding one_from not_due
  one_due is e = told_due is _ (λ z. absurd cc) (λ us fits y. let k = (one_values us fits).0 in let q = sym e ∙ y in cc)

  pub one_not : LineIs one_form one_from n s g rest → ((t : ℕ) → g ≡ form.One t → ⊥) → IsNotDue one_form n s g
  unfolding one_from
  one_not is other = told_not is (λ vs fits y. other _ y)

  pub node_due : {f : NodeForm} → LineIs node_form node_from n s g rest → g ≡ form.Node f → IsDue node_form n s (f.id ∷ f.x ∷ f.l ∷ f.h ∷ f.t ∷ []) rest
  unfolding node_from not_due
  node_due is e = told_due is _ (λ z. absurd cc) (λ us fits y. let k = (node_values us fits).0 in let q = sym e ∙ y in cc)

  pub node_not : LineIs node_form node_from n s g rest → ((f : NodeForm) → g ≡ form.Node f → ⊥) → IsNotDue node_form n s g
  unfolding node_from
  node_not is other = told_not is (λ vs fits y. other _ y)

  pub out_due : {f : OutForm} → LineIs out_form out_from n s g rest → g ≡ form.Out f → IsDue out_form n s (f.number ∷ f.target ∷ []) rest
  unfolding out_from not_due
  out_due is e = told_due is _ (λ z. absurd cc) (λ us fits y. let k = (out_values us fits).0 in let q = sym e ∙ y in cc)

  pub out_not : LineIs out_form out_from n s g rest → ((f : OutForm) → g ≡ form.Out f → ⊥) → IsNotDue out_form n s g
  unfolding out_from
  out_not is other = told_not is (λ vs fits y. other _ y)

  pub end_due : LineIs end_form end_from n s g rest → g ≡ form.End → IsDue end_form n s [] rest
  unfolding end_from not_due
  end_due is e = told_due is [] (λ z. absurd cc) (λ us fits y. end_values us fits)

  pub end_not : LineIs end_form end_from n s g rest → (g ≡ form.End → ⊥) → IsNotDue end_form n s g
  unfolding end_from
  end_not is other = told_not is (λ vs fits y. other y)

  pub size_due : {f : SizeForm} → LineIs crossbar_form size_from n s g rest → g ≡ form.Size f → IsDue crossbar_form n s (f.rows ∷ f.columns ∷ f.switches ∷ f.outputs ∷ []) rest
  unfolding size_from not_due
  size_due is e = told_due is _ (λ z. absurd cc) (λ us fits y. let k = (crossbar-values us fits).0 in let q = sym e ∙ y in cc)

  pub size_not : LineIs crossbar_form size_from n s g rest → ((f : SizeForm) → g ≡ form.Size f → ⊥) → IsNotDue crossbar_form n s g
  unfolding size_from
  size_not is other = told_not is (λ vs fits y. other _ y)

-- a placed cell as a form holds it
unfoldable pub capped : Placed → Placed
capped p = record { row = p.row; column = p.column; cell = capped_cell p.cell }

-- a line read as a cell line
module _ {n : ℕ} {s rest : List ℕ} {g : Form} (is : CellIs n s g rest) where
  -- its cell, and the lines after it
  pub record CellFound (f : CellForm) : Type 0 where
    pub bytes : List ℕ
    pub place : Placed
    pub lines : lines_of s ≡ bytes ⏎ lines_of rest
    pub placed : placed bytes ≡ some place
    pub same : capped place ≡ record { row = f.row; column = f.column; cell = f.cell }

  pub cell_found : {f : CellForm} → g ≡ form.Cell f → CellFound f
  unfolding placed_in placed_form not_due capped
  cell_found {f} e = by (lines_of s) refl
    where
      by : (ls : Lines) → lines_of s ≡ ls → CellFound f
      by (left r) h = let y : g ≡ not_due n = is.yields ∙ ap (λ ls. placed_form n (placed_in ls)) h in absurd cc
      by (l ⏎ ls) h = by_placed (placed l) refl
        where
          by_placed : (o : Option Placed) → placed l ≡ o → CellFound f
          by_placed none p = let y : g ≡ not_due n = is.yields ∙ ap (λ ls. placed_form n (placed_in ls)) h ∙ ap (placed_form n) p in absurd cc
          by_placed (some q) p =
              let y : g ≡ placed_form n (some q) = is.yields ∙ ap (λ ls. placed_form n (placed_in ls)) h ∙ ap (placed_form n) p in
              let z = sym e ∙ y in
              record { bytes = l; place = q; lines = h ∙ ap (λ ms. l ⏎ ms) (is.leaves l ls q h p); placed = p; same = cc }

  pub cell_not : ((f : CellForm) → g ≡ form.Cell f → ⊥) → placed_in (lines_of s) ≡ none
  unfolding placed_form
  cell_not other = by (placed_in (lines_of s)) refl
    where
      by : (o : Option Placed) → placed_in (lines_of s) ≡ o → placed_in (lines_of s) ≡ none
      by none h = h
      by (some p) h = absurd (other _ (is.yields ∙ ap (placed_form n) h))
