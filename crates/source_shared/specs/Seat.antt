-- What a session's seat is seen as.
use Rattle.std.specs.Prelude.{◌≡◌, ℕ, ◌<◌, Bool, false, MatchBool, List, [], ◌∷◌, ◌++◌}
use Rattle.rows.specs.declared.Change.{Change}
use Rattle.source_core.specs.declared.transaction.Receipt.{Receipt}

pub record Seat : Type 0 where
  pub session : ℕ
  -- the changes that it wrote since it last began
  pub changes : List Change
  -- the gno of its last receipt, 0 before the first
  pub last : ℕ
  -- whether its transaction is queued, and it has no receipt of that yet
  pub underway : Bool

abbrev pub new_seat : ℕ → Seat
new_seat session = record { session = session; changes = []; last = 0; underway = false }

abbrev pub begun_seat : Seat → Seat
begun_seat seat = record seat { changes = []; underway = false }

abbrev pub wrote : Seat → Change → Seat
wrote seat change = record seat { changes = seat.changes ++ change ∷ [] }

abbrev pub aborted_seat : Seat → Seat
aborted_seat seat = record seat { changes = [] }

-- the receipt is of the session and of its changes, and its gno is above those of its earlier ones
pub record IsFor (seat : Seat) (receipt : Receipt) : Type 0 where
  pub session : receipt.session ≡ seat.session
  pub changes : receipt.changes ≡ seat.changes
  pub gno : seat.last < receipt.gno

-- it has this receipt
abbrev pub given_to : Seat → Receipt → Seat
given_to seat receipt = record seat { last = receipt.gno; underway = false }

-- the seat takes the receipt just where it may be given it, and has it then
abbrev pub Takes : Seat → Receipt → Bool → Seat → Type 0
Takes old receipt taken new = MatchBool taken (IsFor old receipt × (new ≡ given_to old receipt)) ((¬ IsFor old receipt) × (new ≡ old))
