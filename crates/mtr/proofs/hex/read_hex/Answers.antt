use Rattle.std.proofs.Common.{◌∙◌, ◌++◌, ap, sym, map, Some, take, [], arith}
use Rattle.std.proofs.KnownBytes.{Consumes-nil, Consumes-trans}
use Rattle.std.specs.Prelude.{MatchResult}
use Rattle.script_text.specs.HexText.{SaysBytes}
use Rattle.mtr.specs.Hex.{IsUnread}
use Rattle.script_text.proofs.HexBack.{nothing_read}
use Rattle.mtr.proofs.HexTexts.{bad_piece, bad_digits, more_digits, to_end, says_digits}
use Rattle.mtr.proofs.hex.read_hex.Goals as goal

pub loop-init : goal.loop-init
loop-init g c = ([], Consumes-nil (g.R.Read.remaining c.args.input.now), nothing_read ∙ ap (map Some) (sym c.none-digits.ensures))

pub returns-then-count-eq0 : goal.returns-then-count-eq0
returns-then-count-eq0 g c =
    let remaining = g.R.Read.remaining in
    let read = c.loop.invariant in
    to_end (remaining c.args.input.now) (remaining c.loop.input) (remaining c.read_some.new.input) read.0 (λ text. MatchResult c.ok_or.result (λ bytes. SaysBytes text bytes.items) (IsUnread text))
    read.1 (rw c.if-count-eq0.true at c.in_ok-count.ensures.bytes.0) (c.in_ok-count.ensures.bytes.1 c.if-count-eq0.true (omega arith))
    (rw c.ok_or.ensures.value (says_digits (λ v. v.items) c.bytes.result read.0 c.loop.digits read.2 c.bytes.ensures))

pub returns-then-not-branch : goal.returns-then-not-branch
returns-then-not-branch g c =
    let remaining = g.R.Read.remaining in
    let read = c.loop.invariant in
    bad_piece (remaining c.args.input.now) (remaining c.loop.input) (remaining c.read_some.new.input) read.0 (take c.in_ok-count.count c.read_some.new.piece)
    read.1 c.in_ok-count.ensures.bytes.0
    (bad_digits c.loop.digits (take c.in_ok-count.count c.read_some.new.piece) c.add.new.self c.in_ok-add.field-0 c.if-not-branch.true c.in_ok-add.ensures)

pub loop-preserved : goal.loop-preserved
loop-preserved g c =
    let remaining = g.R.Read.remaining in
    let read = c.loop.invariant in
    let got = take c.in_ok-count.count c.read_some.new.piece in (
      read.0 ++ got,
      Consumes-trans (remaining c.args.input.now) (remaining c.loop.input) (remaining c.read_some.new.input) read.0 got read.1 c.in_ok-count.ensures.bytes.0,
      more_digits c.loop.digits got c.add.new.self read.0 c.in_ok-add.field-0 c.if-not-branch.false c.in_ok-add.ensures read.2,
    )
