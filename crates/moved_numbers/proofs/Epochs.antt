-- Logs that continue after different records that left the same rows.
use Rattle.std.proofs.Common.{◌≡◌, ◌∙◌, sym, ap, subst, refl, ℕ, List, [], ◌∷◌, ◌++◌, length, map, take}
use Rattle.std.proofs.lemmas.List.{take-map}
use Rattle.std.proofs.Math.Seq.{take-append-add}
use Rattle.schema.specs.declared.Table.{Table}
use Rattle.rows.specs.Database.{Database}
use Rattle.record_codec.specs.declared.records.Record.{Record}
use Rattle.record_codec.specs.Log.{after, IsLegalLog}
use Rattle.moved_numbers.specs.Moved.{ahead, behind, moved, LeaveAlike, EpochsAgree, EpochGoesOn}
use Rattle.moved_numbers.proofs.Moving.{all_back, after-map, after-rest}
use Rattle.moved_numbers.proofs.Legally.{rest_is_legal, behind_is_legal, behind_leaves}

other_way : (ts : List Table) (base : Database) (front : List Record) (other : Database) (snap : List Record) → LeaveAlike ts base front other snap →
    LeaveAlike ts other snap base front
other_way ts base front other snap h = record {
  front_is = h.snap_is;
  snap_is = h.front_is;
  mid = h.mid;
  front_leaves = h.snap_leaves;
  snap_leaves = h.front_leaves;
}

-- what is legal after the one, in its numbers, is legal after the other
goes_on : (ts : List Table) (base : Database) (front : List Record) (other : Database) (snap next : List Record) → LeaveAlike ts base front other snap →
    IsLegalLog ts other (snap ++ next) → IsLegalLog ts base (front ++ map (behind (length front)) (map (ahead (length snap)) next))
goes_on ts base front other snap next h legal =
    behind_is_legal ts base h.mid front (map (ahead (length snap)) next) h.front_is h.front_leaves
    (rest_is_legal ts other h.mid snap next legal h.snap_leaves)

one_way : (ts : List Table) (base : Database) (front : List Record) (other : Database) (snap next : List Record) → LeaveAlike ts base front other snap →
    IsLegalLog ts other (snap ++ map (behind (length snap)) next) → IsLegalLog ts base (front ++ map (behind (length front)) next)
one_way ts base front other snap next h legal =
    subst (λ (l : List Record). IsLegalLog ts base (front ++ map (behind (length front)) l)) (all_back (length snap) next)
    (goes_on ts base front other snap (map (behind (length snap)) next) h legal)

pub epochs_agree : EpochsAgree
epochs_agree ts base other front snap next h = record {
  legal = (one_way ts other snap base front next (other_way ts base front other snap h), one_way ts base front other snap next h);
  leaves = behind_leaves ts base h.mid front next h.front_leaves ∙ sym (behind_leaves ts other h.mid snap next h.snap_leaves);
}

map-moved : (n m : ℕ) (log : List Record) → map (behind m) (map (ahead n) log) ≡ map (moved n m) log
map-moved n m [] = refl
map-moved n m (r ∷ log) = ap (λ l. moved n m r ∷ l) (map-moved n m log)

pub epoch_goes_on : EpochGoesOn
epoch_goes_on ts base other front snap next h legal =
    let n = length snap in
    let m = length front in
    record {
      legal = subst (λ (l : List Record). IsLegalLog ts base (front ++ l)) (map-moved n m next) (goes_on ts base front other snap next h legal);
      leaves = λ u.
          ap (after ts other) (take-append-add snap next u) ∙ after-rest ts other h.mid snap (take u next) h.snap_leaves
          ∙ sym (after-map (moved n m) (λ _. refl) ts (take u next) h.mid) ∙ sym (after-rest ts base h.mid front (map (moved n m) (take u next)) h.front_leaves)
          ∙ ap (λ l. after ts base (front ++ l)) (sym (take-map (moved n m) u next)) ∙ ap (after ts base) (sym (take-append-add front (map (moved n m) next) u));
    }
