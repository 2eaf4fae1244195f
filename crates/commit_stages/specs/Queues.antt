-- Which sessions wait for which stage of a group commit, and how they go on.
use Rattle.std.specs.Prelude.{◌≡◌, ℕ, ◌+◌, ◌≤◌, Bool, nat_lt, if◌then◌else◌, List, [], ◌∷◌, ◌++◌, take, drop, length, slice_index_or}
use Rattle.std.specs.List.{list_any, IsDistinct, AllByRecursion}
use Rattle.std.proofs.Common.{eqb}
use Rattle.commit_stages.specs.declared.Stage.{Stage}
use Rattle.commit_stages.specs.declared.Stage.TheVariants.{Flush, Sync, Commit}

pub record Queues : Type 0 where
  -- those whose transactions are to become records, in the order in which they were queued
  pub flush : List ℕ
  -- those whose records are to be synced, in the order of the log
  pub sync : List ℕ
  -- those whose records are synced and to be committed, in the order of the log
  pub commit : List ℕ
  -- how many sessions each group of the sync queue has, the oldest group first
  pub sizes : List ℕ

-- the queue of a stage
abbrev pub queue_of : Queues → Stage → List ℕ
queue_of q Flush = q.flush
queue_of q Sync = q.sync
queue_of q Commit = q.commit

-- all that wait, the furthest first
abbrev pub line_of : Queues → List ℕ
line_of q = q.commit ++ (q.sync ++ q.flush)

-- the session stands in a queue
abbrev pub is_waiting : Queues → ℕ → Bool
is_waiting q session = list_any (eqb session) (line_of q)

-- no session waits
abbrev pub no_queues : Queues
no_queues = record { flush = []; sync = []; commit = []; sizes = [] }

-- the session goes last into the flush queue
abbrev pub queued : Queues → ℕ → Queues
queued q session = record q { flush = q.flush ++ session ∷ [] }

-- the sizes of the groups that these sessions make together: one group, unless there is no session
abbrev pub sizes_of : List ℕ → List ℕ
sizes_of sessions = if nat_lt 0 (length sessions) then length sessions ∷ [] else []

-- the whole flush queue goes behind the sync queue, as one group
abbrev pub flush_taken : Queues → Queues
flush_taken q = record { flush = []; sync = q.sync ++ q.flush; commit = q.commit; sizes = q.sizes ++ sizes_of q.flush }

-- how many sessions the oldest group of the sync queue has; 0 where there is none
abbrev pub oldest_size : Queues → ℕ
oldest_size q = slice_index_or q.sizes 0 0

-- the oldest group of the sync queue goes behind the commit queue
abbrev pub sync_taken : Queues → Queues
sync_taken q = record { flush = q.flush; sync = drop (oldest_size q) q.sync; commit = q.commit ++ take (oldest_size q) q.sync; sizes = drop 1 q.sizes }

-- those of the commit queue wait no more
abbrev pub commit_taken : Queues → Queues
commit_taken q = record q { commit = [] }

-- the number of a session
abbrev pub IsSession : ℕ → Type 0
IsSession session = (1 ≤ session) × (session ≤ 256)

abbrev pub total : List ℕ → ℕ
total [] = 0
total (size ∷ sizes) = size + total sizes

-- groups of these sizes have so many in all, and none is empty
pub record AreSizes (sizes : List ℕ) (count : ℕ) : Type 0 where
  pub some : AllByRecursion (λ size. 1 ≤ size) sizes
  pub whole : total sizes ≡ count

-- only sessions wait, none of them twice, and those of the sync queue are its groups
pub record IsOrderly (q : Queues) : Type 0 where
  pub sessions : AllByRecursion IsSession (line_of q)
  pub distinct : IsDistinct eqb (line_of q)
  pub groups : AreSizes q.sizes (length q.sync)
