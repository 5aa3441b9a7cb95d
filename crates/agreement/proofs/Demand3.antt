-- Demand 3: for each accepted text, its crossbar, readings, walks, rows, light and walk are as specs/Demand3.antt says.
use Prim.Native.Nat.{ℕ, ◌+◌, ◌≤◌, ◌<◌}
use mathlib.Core.Path.{◌≡◌, refl, sym, ap, ◌∙◌}
use mathlib.Core.Logic.{◌↔◌, ◌⊎◌, inl, inr}
use mathlib.Core.Bool.{Bool, true, false, not, ◌&&◌}
use mathlib.Core.List.{List, [], ◌∷◌, map}
use native.Mathlib.Omega.{arith}
use lib.ListN.{length, get_or, length-map}
use lib.Dec.{eqb, ltb}
use borrow.Author.Tests.{ltb-true, lt-ltb, le-ltb, eqb-true, eq-eqb, not-false}
use Rattle.std.proofs.lemmas.Bool.{cases_eq, and_from}
use Rattle.std.proofs.lemmas.List.{get_or-map}
use Rattle.common.specs.Lists.{bit, padded}
use Rattle.common.specs.Outcome.{done, ◌then◌, ◌when◌, lowest, unless}
use Rattle.common.proofs.Lists.{and_left, and_right, bit_one, get_or-padded}
use Rattle.common.proofs.Outcome.{unless_done, not_met}
use Rattle.cells.specs.Record.{Whole, size}
use Rattle.cells.specs.Setting.{is_setting}
use Rattle.diagram.specs.Diagram.{Diagram}
use Rattle.diagram.specs.Walk.{walk_end, walk_value}
use Rattle.diagram.specs.Wires.{row_count}
use Rattle.diagram.specs.Facts.{Facts, Sizes}
use Rattle.diagram.proofs.Walk.{walk_ends}
use Rattle.diagram.proofs.Canonical.{canonical}
use Rattle.jobs.specs.Job.{accepted, walk}
use Rattle.jobs.proofs.Accepted.{accepted_job}
use Rattle.placement.specs.Placement.{cells, crossbar, out_row}
use Rattle.placement.specs.Map.{map_job}
use Rattle.placement.proofs.Readings.{reads, out_row-below, out_on_row}
use Rattle.placement.proofs.Sound.{mapped-sound, cells_count}
use Rattle.conduction.specs.Chain.{row, place, Within}
use Rattle.conduction.specs.Light.{Lit, light, joined, lit_by}
use Rattle.conduction.proofs.Light.{light_answers, light_accepts}
use Rattle.conduction.proofs.Slices.{joined_same, light-same}
use Rattle.agreement.specs.Demand3.{Demand3, Reads, WalksToOne, Tells, Shows, stands_on}

-- the crossbar of a diagram
abbrev whole : Diagram → Whole
whole d = record { head = crossbar d; codes = cells d }

-- a value that is 1 exactly when a statement holds, and is 0 or 1, tells whether it holds
tells : (b : ℕ) (P : Type 0) → (b ≡ 0) ⊎ (b ≡ 1) → (b ≡ 1) ↔ P → Tells b P
tells b P bits e = (
  e,
  (
    (λ z p. let one : b ≡ 1 = e.1 p in omega arith),
    (λ never. elim bits [ inl z ↦ z | inr o ↦ absurd (never (e.0 o)) ]),
  ),
)

-- a number that is not 0 exactly when a statement holds shows whether it holds
pub shows : (n : ℕ) (P : Type 0) → (n ≡ 0 → ⊥) ↔ P → Shows n P
shows n P e = (
  e,
  (
    (λ z p. e.1 p z),
    (λ never. elim (cases_eq n 0) [ inl z ↦ z | inr some ↦ absurd (never (e.0 some)) ]),
  ),
)

-- the value of a walk's end tells whether it is one
value_tells : (e : ℕ) (P : Type 0) → P ↔ (e ≡ 1) → Tells (bit (eqb e 1)) P
unfolding bit
value_tells e P reads =
    tells (bit (eqb e 1)) P (bits (eqb e 1)) (
      (λ h. reads.1 (eqb-true e 1 (bit_one (eqb e 1) h))),
      (λ p. rw (eq-eqb e 1 (reads.0 p))),
    )
  where
    bits : (b : Bool) → (bit b ≡ 0) ⊎ (bit b ≡ 1)
    bits true = inr refl
    bits false = inl refl

module _ (text : List ℕ) (d : Diagram) (facts : Facts d) (sizes : Sizes d) where
  -- the row that the record holds for an output is that of the id named
  stands : (j : ℕ) → j < length d.outs → stands_on (whole d) j ≡ out_row d (get_or d.outs j 0)
  unfolding crossbar
  stands j h =
      get_or-padded _ (map (out_row d) d.outs) j 0 (rw length-map h) ∙ get_or-map (out_row d) d.outs j 0 0 h

  row_within : (j : ℕ) → j < length d.outs → stands_on (whole d) j < row_count d
  row_within j h =
      rw (stands j h) (out_row-below d (get_or d.outs j 0) (facts.outs_named j h) (out_on_row d facts j h))

  -- the reading of an output is that of its id
  reading :
      (setting : List ℕ) (j : ℕ)
      → is_setting d.switches setting ≡ true
      → j < length d.outs
      → Reads (whole d) setting j ↔ WalksToOne d setting j
  unfolding crossbar joined
  reading setting j s h =
      rw (stands j h) (reads d setting facts s (get_or d.outs j 0) (facts.outs_named j h) (out_on_row d facts j h))

  -- outputs that read the same walk to the same end, so they name one id
  same-walk :
      (i j : ℕ)
      → i < length d.outs
      → j < length d.outs
      → ((setting : List ℕ)
      → is_setting d.switches setting ≡ true
      → Reads (whole d) setting i ↔ Reads (whole d) setting j)
      → (setting : List ℕ)
      → is_setting d.switches setting ≡ true
      → walk_end d setting (get_or d.outs i 0) ≡ walk_end d setting (get_or d.outs j 0)
  same-walk i j hi hj agree setting s =
      let at_i = reading setting i s hi in
      let at_j = reading setting j s hj in
      let ends-i = walk_ends d setting facts (get_or d.outs i 0) (facts.outs_named i hi) in
      let ends-j = walk_ends d setting facts (get_or d.outs j 0) (facts.outs_named j hj) in
      let to_j : WalksToOne d setting i → WalksToOne d setting j = λ e. at_j.0 ((agree setting s).0 (at_i.1 e)) in
      let to-i : WalksToOne d setting j → WalksToOne d setting i = λ e. at_i.0 ((agree setting s).1 (at_j.1 e)) in
      elim ends-i [
        | inl zi ↦
            elim ends-j [ inl zj ↦ zi ∙ sym zj | inr oj ↦ let oi = to-i oj in oi ∙ sym oj ]
        | inr oi ↦ oi ∙ sym (to_j oi)
      ]

  one_row :
      (i j : ℕ)
      → i < length d.outs
      → j < length d.outs
      → ((setting : List ℕ)
      → is_setting d.switches setting ≡ true
      → Reads (whole d) setting i ↔ Reads (whole d) setting j)
      ↔ (stands_on (whole d) i ≡ stands_on (whole d) j)
  one_row i j hi hj = (
    (λ agree.
        let one-id =
        canonical d facts (get_or d.outs i 0) (get_or d.outs j 0) (facts.outs_named i hi) (facts.outs_named j hj)
        (same-walk i j hi hj agree) in
        stands i hi ∙ ap (out_row d) one-id ∙ sym (stands j hj)),
    (λ same setting s. rw same ((λ p. p), (λ p. p))),
  )

  -- the crossbar in a slice of any length that holds it
  shown :
      (setting : List ℕ) (n room : ℕ) (a : Lit) (j : ℕ)
      → size (crossbar d) ≤ n
      → light (crossbar d) (padded n (cells d)) setting room ≡ done a
      → j < length d.outs
      → Shows (get_or a.firsts (stands_on (whole d) j) 0) (Reads (whole d) setting j)
  unfolding crossbar place Within
  shown setting n room a j fits lights h =
      let answer = (light_answers (crossbar d) (padded n (cells d)) setting room a lights).answer in
      let r = stands_on (whole d) j in
      shows (get_or a.firsts r 0) (Reads (whole d) setting j)
      (rw (joined_same (crossbar d) (cells d) n setting) at (answer.chains (row r) (row_within j h)))

  lights :
      (setting : List ℕ) (n room : ℕ)
      → size (crossbar d) ≤ n
      → is_setting d.switches setting ≡ true
      → (crossbar d).rows + (crossbar d).columns ≤ room
      → (a : Lit) × (light (crossbar d) (padded n (cells d)) setting room ≡ done a)
  unfolding crossbar
  lights setting n room fits s h = (
    lit_by (crossbar d) (cells d) setting,
    light-same (crossbar d) (cells d) n setting room enough
        ∙ light_accepts (crossbar d) (cells d) setting room (mapped-sound d facts sizes) s h,
  )
    where
      enough : size (crossbar d) ≤ length (cells d)
      enough = rw (cells_count d) (omega arith)

module _ (text : List ℕ) (d : Diagram) (facts : Facts d) (sizes : Sizes d) (taken : accepted text ≡ done d) where
  -- ground 13 on walk, met or not
  fits13 : List ℕ → ℕ → Bool
  fits13 setting j = is_setting d.switches setting && ltb j (length d.outs)

  walk_is :
      (setting : List ℕ) (j : ℕ)
      → walk text setting j
      ≡ unless (lowest ((13 when not (fits13 setting j)) ∷ [])) 0 (done (walk_value d setting (get_or d.outs j 0)))
  unfolding walk fits13 ◌then◌
  walk_is setting j = rw taken

  walked : (setting : List ℕ) (j v : ℕ) → walk text setting j ≡ done v → Tells v (Reads (whole d) setting j)
  unfolding fits13 walk_value
  walked setting j v h =
      let kept = unless_done _ 0 _ v (sym (walk_is setting j) ∙ h) in
      let fits = not-false (fits13 setting j) (not_met 12 (not (fits13 setting j)) [] kept.0) in
      let s = and_left (is_setting d.switches setting) (ltb j (length d.outs)) fits in
      let below = ltb-true j (length d.outs) (and_right (is_setting d.switches setting) (ltb j (length d.outs)) fits) in
      let value : bit (eqb (walk_end d setting (get_or d.outs j 0)) 1) ≡ v = cc in
      rw (← value) (value_tells _ (Reads (whole d) setting j) (reading text d facts sizes setting j s below))

  walks :
      (setting : List ℕ) (j : ℕ)
      → is_setting d.switches setting ≡ true
      → j < length d.outs
      → (v : ℕ) × (walk text setting j ≡ done v)
  unfolding fits13 lowest unless
  walks setting j s h =
      let fits = and_from (is_setting d.switches setting) (ltb j (length d.outs)) s (lt-ltb j (length d.outs) h) in
      (walk_value d setting (get_or d.outs j 0), walk_is setting j ∙ rw fits)

-- map refuses an accepted job for a short buffer only
always_mapped :
    (text : List ℕ) (d : Diagram) (room : ℕ)
    → accepted text ≡ done d
    → size (crossbar d) ≤ room
    → map_job text room ≡ done (whole d)
unfolding map_job ◌then◌ lowest unless
always_mapped text d room taken h = rw (taken, le-ltb room (size (crossbar d)) h)

-- the claim, for every accepted text
pub demand_3 : (text : List ℕ) (d : Diagram) → accepted text ≡ done d → Demand3 text d
unfolding crossbar
demand_3 text d taken = agrees (accepted_job text d taken).facts (accepted_job text d taken).sizes
  where
    agrees : Facts d → Sizes d → Demand3 text d
    agrees facts sizes =
        record {
          whole = whole d;
          placed = refl;
          maps = λ room. always_mapped text d room taken;
          switches = refl;
          outputs = refl;
          stands = stands text d facts sizes;
          reading = reading text d facts sizes;
          one_row = one_row text d facts sizes;
          shown = shown text d facts sizes;
          lights = lights text d facts sizes;
          walked = walked text d facts sizes taken;
          walks = walks text d facts sizes taken;
        }
