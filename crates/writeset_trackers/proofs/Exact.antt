-- The parent that a history gives is that of the log with which it agrees.
use Rattle.std.proofs.Common.{◌≡◌, ◌∙◌, sym, ap, ℕ, ◌+◌, ◌<◌, ◌||◌, cond, List, [], ◌∷◌, ◌++◌, length, take, get_or, map, min, max, unwrap_or, arith}
use Rattle.std.proofs.lemmas.List.{map-append, take_more}
use Rattle.schema.specs.declared.Table.{Table}
use Rattle.log_index.specs.declared.Entry.{Entry}
use Rattle.log_index.specs.declared.Footprint.{Footprint}
use Rattle.write_set.specs.Digest.{digests_of}
use Rattle.tracker_trait.specs.History.{start_of, newest_of}
use Rattle.tracker_trait.specs.Parent.{greatest, last_touch, writeset_parent}
use Rattle.writeset_history.specs.History.{History, number_of}
use Rattle.writeset_trackers.specs.Agreement.{IsHistoryOf}
use Rattle.writeset_trackers.specs.Noted.{last_number, parent_by}
use Rattle.writeset_trackers.proofs.Counts.{number_back}

pub same_parent : (ts : List Table) (log : List Entry) (h : History) (t : Footprint) (digests : List ℕ) (order : ℕ) → IsHistoryOf ts log h → digests ≡ digests_of ts t →
    parent_by h t digests order ≡ writeset_parent ts h.limit log t order
same_parent ts log h t digests order is set = ap (λ last. cond (t.flags.fk || t.flags.missing_keys) order (min order last)) last
  where
    number : (digest : ℕ) → number_of h digest ≡ newest_of ts (start_of ts h.limit log) log digest
    number digest = ap (λ o. unwrap_or o 0) (is.numbers digest) ∙ number_back (newest_of ts h.start log digest) ∙ ap (λ start. newest_of ts start log digest) is.start

    last : last_number h digests ≡ last_touch ts h.limit log (digests_of ts t)
    last = λ i. greatest (is.start i) (map (λ digest. number digest i) (set i))

greatest-more : (least : ℕ) (ns : List ℕ) (n : ℕ) → greatest least (ns ++ n ∷ []) ≡ max (greatest least ns) n
greatest-more least [] n = omega arith
greatest-more least (m ∷ ns) n = omega (arith, greatest-more least ns n)

-- one digest more
pub one_number_more : (h : History) (digests : List ℕ) (i last digest now : ℕ) → i < length digests → digest ≡ get_or digests i 0 → last ≡ last_number h (take i digests) →
    now ≡ max last (number_of h digest) → now ≡ last_number h (take (i + 1) digests)
one_number_more h digests i last digest now lt item before step =
    step ∙ (λ j. max (before j) (number_of h (item j)))
    ∙ sym (greatest-more h.start (map (number_of h) (take i digests)) (number_of h (get_or digests i 0)))
    ∙ ap (greatest h.start) (sym (map-append (number_of h) (take i digests) (get_or digests i 0 ∷ [])))
    ∙ ap (λ ds. greatest h.start (map (number_of h) ds)) (sym (take_more digests i 0 lt))
