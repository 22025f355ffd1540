-- Laws of the rule on torn insertions: what is not withdrawn is what it is, and of what is withdrawn, the points before it hold the store.
use Rattle.std.specs.Prelude.{ℕ, ◌≡◌, refl, Bool, true, false, cond, Float, Err, Ok, Result}
use Rattle.std.proofs.Common.{sym, ap, ◌∙◌, subst, true≢false}
use Rattle.control_point.specs.declared.t_mesh_direction.TmeshDirection.{TmeshDirection}
use Rattle.lent_points.specs.Lent.{Points, Held}
use Rattle.insertion.specs.Insert.{is_done, is_torn, is_refused, insert_point}
use Rattle.insertion.specs.Lent.{Inserts}
use Rattle.insertion.specs.Withdrawal.{is_withdrawn, unless_withdrawn, leaves_point, InsertsBy}
use Rattle.insertion.specs.declared.insertion.Insertion.TheVariants.{Done, Torn}
use Rattle.control_point.specs.declared.refusal.Refusal.{Refusal}
use Rattle.insertion.specs.declared.insertion.Insertion.{Insertion}

-- ---- which are withdrawn
-- one that is not torn is not, by either rule
pub untorn_not_withdrawn : (withdraws : Bool) (answer : Result Insertion Refusal) → is_torn answer ≡ false → is_withdrawn withdraws answer ≡ false
untorn_not_withdrawn true answer untorn = untorn
untorn_not_withdrawn false answer untorn = refl

pub withdrawn_torn : (withdraws : Bool) (answer : Result Insertion Refusal) → is_withdrawn withdraws answer ≡ true → is_torn answer ≡ true
withdrawn_torn true answer withdrawn = withdrawn
withdrawn_torn false answer withdrawn = absurd (true≢false (sym withdrawn))

-- torn, it is neither done nor refused
pub torn_not_done : (answer : Result Insertion Refusal) → is_torn answer ≡ true → is_done answer ≡ false
torn_not_done (Ok (Done opened inferred)) torn = sym torn
torn_not_done (Ok (Torn opened inferred)) torn = refl
torn_not_done (Err refusal) torn = refl

-- ---- one whose point stands
pub leaves_not_refused : (withdraws : Bool) (answer : Result Insertion Refusal) → leaves_point withdraws answer ≡ true → is_refused answer ≡ false
leaves_not_refused withdraws (Ok (Done opened inferred)) leaves = refl
leaves_not_refused withdraws (Ok (Torn opened inferred)) leaves = refl
leaves_not_refused withdraws (Err refusal) leaves = sym leaves

module _ {A : Type 0} (withdraws : Bool) (answer : Result Insertion Refusal) (before after : A) where
  -- what it left stands
  pub leaves_stands : leaves_point withdraws answer ≡ true → unless_withdrawn withdraws answer before after ≡ after
  leaves_stands leaves = by_answer withdraws answer leaves
    where
      by_answer : (rule : Bool) (a : Result Insertion Refusal) → leaves_point rule a ≡ true → unless_withdrawn rule a before after ≡ after
      by_answer false a leaves = refl
      by_answer true (Ok (Done opened inferred)) leaves = refl
      by_answer true (Ok (Torn opened inferred)) leaves = absurd (true≢false (sym leaves))
      by_answer true (Err refusal) leaves = refl

  -- where none stands, all is as before, if a refusal leaves it so
  pub none_stands : (is_refused answer ≡ true → after ≡ before) → leaves_point withdraws answer ≡ false → unless_withdrawn withdraws answer before after ≡ before
  none_stands refused none = by_answer withdraws answer refused none
    where
      by_answer : (rule : Bool) (a : Result Insertion Refusal) → (is_refused a ≡ true → after ≡ before) → leaves_point rule a ≡ false → unless_withdrawn rule a before after ≡ before
      by_answer rule (Ok (Done opened inferred)) refused none = absurd (true≢false none)
      by_answer true (Ok (Torn opened inferred)) refused none = refl
      by_answer false (Ok (Torn opened inferred)) refused none = absurd (true≢false none)
      by_answer true (Err refusal) refused none = refused refl
      by_answer false (Err refusal) refused none = refused refl

-- ---- into lent points
module _ (withdraws : Bool) (e : Float) (points after : Points) (made : ℕ) (listed : Bool) (con : ℕ) (d : TmeshDirection) (ratio : Float) (answer : Result Insertion Refusal)
    (inserts : Inserts e points made listed con d ratio answer after) where
  pub inserts_not_withdrawn : is_withdrawn withdraws answer ≡ false → InsertsBy withdraws e points made listed con d ratio answer after
  inserts_not_withdrawn stands rest store held is =
      let a = inserts rest store held is in
      let result = insert_point e store listed con d ratio in
      (a.0, subst (λ (b : Bool). Held after rest (cond b store result.store)) (sym (ap (is_withdrawn withdraws) (sym a.0) ∙ stands)) a.1)

  pub inserts_withdrawn : is_withdrawn withdraws answer ≡ true → InsertsBy withdraws e points made listed con d ratio answer points
  inserts_withdrawn withdrawn rest store held is =
      let a = inserts rest store held is in
      let result = insert_point e store listed con d ratio in
      (a.0, subst (λ (b : Bool). Held points rest (cond b store result.store)) (sym (ap (is_withdrawn withdraws) (sym a.0) ∙ withdrawn)) held)

-- by the rule that withdraws, where that is the rule
pub by_rule : (withdraws : Bool) (e : Float) (points after : Points) (made : ℕ) (listed : Bool) (con : ℕ) (d : TmeshDirection) (ratio : Float) (answer : Result Insertion Refusal) → withdraws ≡ true
    → InsertsBy true e points made listed con d ratio answer after → InsertsBy withdraws e points made listed con d ratio answer after
by_rule withdraws e points after made listed con d ratio answer is inserts =
    subst (λ (rule : Bool). InsertsBy rule e points made listed con d ratio answer after) (sym is) inserts
