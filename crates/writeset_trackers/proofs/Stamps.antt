-- A stamp, by what a tracker has seen: the history within is the one that callers see.
use Rattle.std.proofs.Common.{◌≡◌, ◌∙◌, sym, ap, subst, ℕ, ◌+◌, ◌-◌, ◌<◌, ◌≤◌, List, ◌∷◌, length, map, get_or, set, reverse, arith}
use Rattle.std.proofs.lemmas.List.{length-reverse}
use Rattle.schema.specs.declared.Table.{Table}
use Rattle.schema.specs.Covering.{Covers}
use Rattle.log_index.specs.declared.Entry.{Entry}
use Rattle.log_index.specs.declared.Footprint.{Footprint}
use Rattle.log_index.specs.Footprint.{touched}
use Rattle.log_index.specs.Log.{entry_place}
use Rattle.tracker_trait.specs.History.{last_of}
use Rattle.tracker_trait.specs.Parent.{writeset_parent}
use Rattle.tracker_trait.specs.Law.{IsOrderParent, IsOfTables, stamped}
use Rattle.writeset_history.specs.History.{History, IsUpTo}
use Rattle.writeset_trackers.specs.Agreement.{IsHistoryOf}
use Rattle.writeset_trackers.specs.Noted.{parent_by, noted}
use Rattle.writeset_trackers.specs.Places.{AreLast}
use Rattle.writeset_trackers.proofs.Lists.{reversed}
use Rattle.writeset_trackers.proofs.Steps.{up_to, starts_before, goes_on}
use Rattle.writeset_trackers.proofs.Exact.{same_parent}
use Rattle.writeset_trackers.proofs.Cover.{writeset_covers}
use Rattle.writeset_trackers.proofs.Last.{one_more_last}

-- the number behind the last is later than all that the history has
pub is_up_to : (ts : List Table) (log : List Entry) (h seen : History) (len : ℕ) → h ≡ seen → IsHistoryOf ts (reverse log) seen → len ≡ length log → IsUpTo h (len + 1)
is_up_to ts log h seen len same is long = subst (λ (h : History). IsUpTo h (len + 1)) (sym same) (up_to ts (reverse log) seen (len + 1) is (omega (arith, long, length-reverse log)))

pub is_above : (ts : List Table) (log : List Entry) (h seen : History) (len : ℕ) → h ≡ seen → IsHistoryOf ts (reverse log) seen → len ≡ length log → h.start < len + 1
is_above ts log h seen len same is long = subst (λ (h : History). h.start < len + 1) (sym same) (starts_before ts (reverse log) seen (len + 1) is (omega (arith, long, length-reverse log)))

-- A transaction that is stamped behind a log: its footprint and its digests, and the history as it was read, which is that of the log.
pub record Stamp (ts : List Table) (log : List Entry) (t : Footprint) (w : List ℕ) : Type 0 where
  pub of_tables : IsOfTables ts t w
  pub seen : History
  pub is : IsHistoryOf ts (reverse log) seen
  pub h : History
  pub same : h ≡ seen

pub is_exact : (ts : List Table) (log : List Entry) (t : Footprint) (w : List ℕ) (stamp : Stamp ts log t w) (order parent : ℕ) → parent ≡ parent_by stamp.h t w order →
    parent ≡ writeset_parent ts stamp.seen.limit (reverse log) t order
is_exact ts log t w stamp order parent by = by ∙ ap (λ (h : History). parent_by h t w order) stamp.same ∙ same_parent ts (reverse log) stamp.seen t w order stamp.is stamp.of_tables.set

pub is_covered : (ts : List Table) (log : List Entry) (t : Footprint) (w : List ℕ) (stamp : Stamp ts log t w) (session order parent : ℕ) → parent ≡ parent_by stamp.h t w order →
    IsOrderParent log t session order → Covers (map entry_place log) (touched t) parent
is_covered ts log t w stamp session order parent by may =
    subst (Covers (map entry_place log) (touched t)) (sym (is_exact ts log t w stamp order parent by)) (writeset_covers ts stamp.seen.limit log t w order stamp.is.logged stamp.of_tables may.covers)

-- the history goes on with the log
pub has_gone_on : (ts : List Table) (log : List Entry) (t : Footprint) (w : List ℕ) (stamp : Stamp ts log t w) (new : History) (session parent len : ℕ) → len ≡ length log →
    new ≡ noted stamp.h t w (len + 1) →
    IsHistoryOf ts (reverse (stamped log t session parent)) new
has_gone_on ts log t w stamp new session parent len long step =
    let last : Entry = record { sequence = length log + 1; parent = parent; session = session; footprint = t } in
    let new_is : new ≡ noted stamp.seen t w (length log + 1) = step ∙ (λ i. noted (stamp.same i) t w (long i + 1)) in
    let behind : IsHistoryOf ts (last ∷ reverse log) (noted stamp.seen t w (length log + 1)) =
    goes_on ts (reverse log) stamp.seen last w stamp.is (record { number = ap (λ n. n + 1) (sym (length-reverse log)); refs = stamp.of_tables.refs }) stamp.of_tables.set in
    subst (λ (h : History). IsHistoryOf ts (reverse (stamped log t session parent)) h) (sym new_is)
    (subst (λ (l : List Entry). IsHistoryOf ts l (noted stamp.seen t w (length log + 1))) (sym (reversed log last)) behind)

-- ---- with the sessions' own last entries

-- A session, and the last entry of each as they were read, which are those of the log.
pub record Own (log : List Entry) (session : ℕ) : Type 0 where
  pub least : 1 ≤ session
  pub greatest : session ≤ 256
  pub seen : List ℕ
  pub are : AreLast (reverse log) seen
  pub last : List ℕ
  pub same : last ≡ seen
  pub room : length last ≡ 256

pub own_is : (log : List Entry) (session : ℕ) (own : Own log session) (number : ℕ) → number ≡ get_or own.last (session - 1) 0 → number ≡ last_of (reverse log) session
own_is log session own number read = read ∙ ap (λ l. get_or l (session - 1) 0) own.same ∙ own.are session own.least own.greatest

pub have_gone_on : (log : List Entry) (session : ℕ) (own : Own log session) (new : List ℕ) (t : Footprint) (parent len : ℕ) → len ≡ length log → new ≡ set own.last (session - 1) (len + 1) →
    AreLast (reverse (stamped log t session parent)) new
have_gone_on log session own new t parent len long step =
    let entry : Entry = record { sequence = length log + 1; parent = parent; session = session; footprint = t } in
    let new_is : new ≡ set own.seen (session - 1) (length log + 1) = step ∙ (λ i. set (own.same i) (session - 1) (long i + 1)) in
    subst (λ (l : List ℕ). AreLast (reverse (stamped log t session parent)) l) (sym new_is)
    (subst (λ (l : List Entry). AreLast l (set own.seen (session - 1) (length log + 1))) (sym (reversed log entry))
    (one_more_last (reverse log) own.seen entry (omega (arith, own.room, ap length own.same)) own.least own.greatest own.are))
