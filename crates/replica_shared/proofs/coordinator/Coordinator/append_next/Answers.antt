use Rattle.std.proofs.Common.{subst, rules, arith}
use Rattle.replica_shared.specs.Together.{State, IsAppended}
use Rattle.replica_shared.proofs.Standing.{all_appended, next_within, next_operation, next_may, next_known, stand_appended}
use Rattle.replica_shared.proofs.coordinator.Coordinator.append_next.Goals as goal

pub returns-then-self-committed-clause-all : goal.returns-then-self-committed-clause-all
returns-then-self-committed-clause-all g c _ =
    subst (λ (s : State). IsAppended s.core s.publication) c.self.view_is (all_appended c.self.invariant.stand (rw (← c.committed-committed.ensures.value) c.if-self-committed.true))

pub bounds-pending-self-inside : goal.bounds-pending-self-inside
bounds-pending-self-inside g c =
    let more = rw c.committed-committed.ensures.value at c.if-self-committed.false in
    rw (c.published-published.ensures.value, c.pending.ensures) (next_within c.self.invariant.stand c.committed-committed.ensures.sound more)

pub offset_bounds-pending-self-inside : goal.offset_bounds-pending-self-inside
offset_bounds-pending-self-inside g c = let inside = bounds-pending-self-inside g c in search (rules, arith)

pub append-requires-clause-next : goal.append-requires-clause-next
append-requires-clause-next g c =
    let more = rw c.committed-committed.ensures.value at c.if-self-committed.false in
    let is = rw c.published-published.ensures.value at c.index-pending-self.is in
    let sound = c.committed-committed.ensures.sound in
    next_may c.self.invariant.stand _ sound more (next_operation c.self.invariant.stand c.index-pending-self.result sound more c.pending.ensures is)

pub append-requires-clause-known : goal.append-requires-clause-known
append-requires-clause-known g c =
    let more = rw c.committed-committed.ensures.value at c.if-self-committed.false in
    let is = rw c.published-published.ensures.value at c.index-pending-self.is in
    let sound = c.committed-committed.ensures.sound in
    next_known c.self.invariant.stand _ _ c.self.invariant.known_is
    (next_operation c.self.invariant.stand c.index-pending-self.result sound more c.pending.ensures is)

pub invariant_of-self-2 : goal.invariant_of-self-2
invariant_of-self-2 g c =
    let more = rw c.committed-committed.ensures.value at c.if-self-committed.false in
    let is = rw c.published-published.ensures.value at c.index-pending-self.is in
    let at = next_operation c.self.invariant.stand c.index-pending-self.result c.committed-committed.ensures.sound more c.pending.ensures is in
    rw c.in_ok-append.ensures.ok record {
      stand = stand_appended c.self.invariant.stand _ at;
      kept = c.self.invariant.kept;
      line = c.self.invariant.line;
      claims = c.self.invariant.claims;
      stops = c.self.invariant.stops;
      rest = c.self.invariant.rest;
      known_is = c.self.invariant.known_is;
    }
