use Rattle.std.proofs.Common.{◌≡◌, ℕ, List, [], ◌++◌, drop, length, subst}
use Rattle.std.specs.Prelude.{IfSome}
use Rattle.std.specs.Io.{StopsAt}
use Rattle.std.specs.Io.BufRead.{take_through}
use Rattle.script_text.specs.Lines.{IsLine}
use Rattle.script_text.proofs.ReadLines.{line_of_read, known_line}
use Rattle.script_text.proofs.lines.read_line.Goals as goal

stops_whole : (cleared read : List ℕ) → cleared ≡ [] → StopsAt (drop (length cleared) read) 10 → StopsAt read 10
stops_whole cleared read e h = let P : List ℕ → Type 0 = λ l. StopsAt (drop (length l) read) 10 in subst P e h

pub returns : goal.returns
returns g c = record {
  known =
      let one : IsLine c.take_end.new.line.items =
      line_of_read _ _ c.take_end.result (stops_whole c.clear.new.self.items _ c.clear.ensures.items c.in_ok-read_until.ensures.stops) c.take_end.ensures in
      let P : List ℕ → Type 0 = λ l. IfSome (g.R.Read.remaining c.args.input.now) (λ text. c.read_until.new.buf.items ≡ l ++ take_through 10 text) in
      known_line (g.R.Read.remaining c.args.input.now) (g.R.Read.remaining c.read_until.new.self) c.read_until.new.buf.items c.take_end.new.line.items c.take_end.result one c.take_end.ensures
      (subst P c.clear.ensures.items c.in_ok-read_until.ensures.bytes) c.in_ok-read_until.ensures.rest;
}
