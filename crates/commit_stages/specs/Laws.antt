-- What follows from the definitions.
use Rattle.std.specs.Prelude.{◌≡◌, ℕ, [], ◌∷◌, ◌++◌}
use Rattle.commit_stages.specs.Queues.{Queues, line_of, queued, flush_taken, sync_taken, commit_taken}

-- What each step makes of the line of all that wait: a session queued goes behind it, a flush and a sync leave it as it
-- is, and a commit takes the commit queue off its front.
pub record KeepsLine : Type 0 where
  pub queue : (q : Queues) (session : ℕ) → line_of (queued q session) ≡ line_of q ++ session ∷ []
  pub flush : (q : Queues) → line_of (flush_taken q) ≡ line_of q
  pub sync : (q : Queues) → line_of (sync_taken q) ≡ line_of q
  pub commit : (q : Queues) → q.commit ++ line_of (commit_taken q) ≡ line_of q
