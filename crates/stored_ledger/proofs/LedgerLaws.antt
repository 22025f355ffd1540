-- Laws of the ledger: which totals a number and a kind choose.
use Rattle.std.specs.Prelude.{ℕ, ◌<◌, ◌≤◌, ◌≡◌, cond, eqb, ltb}
use Rattle.std.proofs.Common.{eq-eqb, ne_eqb, lt-ltb, le-ltb}
use Rattle.stored_ledger.specs.declared.Totals.{Totals}

-- an insertion's number: 0 done, 8 torn, any other refused
module _ (number : ℕ) (done torn refused : Totals) where
  pub by_done : number ≡ 0 → done ≡ cond (eqb number 0) done (cond (eqb number 8) torn refused)
  by_done zero = rw (eq-eqb number 0 zero)

  pub by_torn : (number ≡ 0 → ⊥) → number ≡ 8 → torn ≡ cond (eqb number 0) done (cond (eqb number 8) torn refused)
  by_torn more eight = rw (ne_eqb number 0 more, eq-eqb number 8 eight)

  pub by_refused : (number ≡ 0 → ⊥) → (number ≡ 8 → ⊥) → refused ≡ cond (eqb number 0) done (cond (eqb number 8) torn refused)
  by_refused more other = rw (ne_eqb number 0 more, ne_eqb number 8 other)

-- and that of one that is withdrawn where it is torn: 0 done, any other not
module _ (number : ℕ) (done other : Totals) where
  pub by_done_alone : number ≡ 0 → done ≡ cond (eqb number 0) done other
  by_done_alone zero = rw (eq-eqb number 0 zero)

  pub by_not_done : (number ≡ 0 → ⊥) → other ≡ cond (eqb number 0) done other
  by_not_done more = rw (ne_eqb number 0 more)

-- a call's kind: 0 an insertion, 10 one that is withdrawn where it is torn, 16 and above a direct call
module _ (kind : ℕ) (insertion withdrawing other direct : Totals) where
  abbrev by_kind : Totals
  by_kind = cond (eqb kind 0) insertion (cond (eqb kind 10) withdrawing (cond (ltb kind 16) other direct))

  pub by_insertion : kind ≡ 0 → insertion ≡ by_kind
  by_insertion zero = rw (eq-eqb kind 0 zero)

  module _ (more : kind ≡ 0 → ⊥) where
    pub by_withdrawing : kind ≡ 10 → withdrawing ≡ by_kind
    by_withdrawing ten = rw (ne_eqb kind 0 more, eq-eqb kind 10 ten)

    pub by_other : (kind ≡ 10 → ⊥) → kind < 16 → other ≡ by_kind
    by_other not-ten below = rw (ne_eqb kind 0 more, ne_eqb kind 10 not-ten, lt-ltb kind 16 below)

    pub by_direct : (kind ≡ 10 → ⊥) → 16 ≤ kind → direct ≡ by_kind
    by_direct not-ten above = rw (ne_eqb kind 0 more, ne_eqb kind 10 not-ten, le-ltb kind 16 above)
