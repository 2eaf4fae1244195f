-- What `==` answers of a job's rows and tables, and of lists of them.
use Rattle.std.proofs.Common.{◌≡◌, sym, ap, ◌∙◌, refl, ℤ, Bool, ◌==◌, ◌&&◌, int_eq, List, length, take, Option, Some, None}
use Rattle.std.specs.Bool.{Decides}
use Rattle.std.specs.Cmp.{booleans_Decides}
use Rattle.std.specs.Cmp.Lexicographic.{pointwise}
use Rattle.std.specs.Option.{option_eq}
use Rattle.std.proofs.Math.Bool.{beq}
use Rattle.std.proofs.Math.Seq.{take-append_seam}
use Rattle.std.proofs.lemmas.Bool.Decides.{Decides-eqb, Decides-int_eq, Decides-and, Decides-like}
use Rattle.std.proofs.lemmas.Slice.Eq.{slice_eq-Decides}
use Rattle.schema.specs.declared.Table.{Table}
use Rattle.rows.specs.Row.{padded}

pub pair_Decides : {A B : Type 0} {E : A → A → Bool} {F : B → B → Bool} → ((a b : A) → Decides (E a b) (a ≡ b)) → ((a b : B) → Decides (F a b) (a ≡ b)) → (p q : A × B) →
    Decides (E p.0 q.0 && F p.1 q.1) (p ≡ q)
pair_Decides {A} {B} first second p q =
    Decides-like _ (λ h. λ i. (h.0 i, h.1 i)) (λ e. (ap (λ (r : A × B). r.0) e, ap (λ (r : A × B). r.1) e))
    (Decides-and _ _ (first p.0 q.0) (second p.1 q.1))

pub option_Decides : {A : Type 0} {E : A → A → Bool} → ((a b : A) → Decides (E a b) (a ≡ b)) → (x y : Option A) → Decides (option_eq E x y) (x ≡ y)
option_Decides same None None = (λ _. refl, λ _. refl)
option_Decides same None (Some y) = (λ h. cc, λ e. cc)
option_Decides same (Some x) None = (λ h. cc, λ e. cc)
option_Decides same (Some x) (Some y) = Decides-like _ (ap Some) (λ e. cc) (same x y)

pub table_Decides : (a b : Table) → Decides (a.id == b.id && (a.columns == b.columns &&
    (beq a.keyed b.keyed && (option_eq (λ p q. p == q) a.unique b.unique && option_eq (λ p q. p.0 == q.0 && p.1 == q.1) a.parent b.parent)))) (a ≡ b)
table_Decides a b =
    Decides-like _ (λ p. λ i. record { id = p.0 i; columns = p.1.0 i; keyed = p.1.1.0 i; unique = p.1.1.1.0 i; parent = p.1.1.1.1 i })
    (λ e. (ap (λ (t : Table). t.id) e, (ap (λ (t : Table). t.columns) e, (ap (λ (t : Table). t.keyed) e, (ap (λ (t : Table). t.unique) e, ap (λ (t : Table). t.parent) e)))))
    (Decides-and _ _ (Decides-eqb a.id b.id)
    (Decides-and _ _ (Decides-eqb a.columns b.columns)
    (Decides-and _ _ (booleans_Decides a.keyed b.keyed)
    (Decides-and _ _ (option_Decides Decides-eqb a.unique b.unique)
    (option_Decides (pair_Decides Decides-eqb Decides-eqb) a.parent b.parent)))))

same_padded : (xs ys : List ℤ) → length xs ≡ length ys → padded xs ≡ padded ys → xs ≡ ys
same_padded xs ys long same =
    sym (take-append_seam xs _) ∙ ap (take (length xs)) same ∙ ap (λ n. take n (padded ys)) long ∙ take-append_seam ys _

pub columns_Decides : (xs ys : List ℤ) → Decides (length xs == length ys && pointwise int_eq (padded xs) (padded ys)) (xs ≡ ys)
columns_Decides xs ys =
    Decides-like _ (λ p. same_padded xs ys p.0 p.1) (λ e. (ap length e, ap padded e))
    (Decides-and _ _ (Decides-eqb (length xs) (length ys)) (slice_eq-Decides Decides-int_eq (padded xs) (padded ys) _ refl))
