use Rattle.std.proofs.Common.{◌∙◌}
use Rattle.script_text.proofs.TextLines.{nothing_said, line_said, then_taken}
use Rattle.log_tools.specs.Head.{said, added}
use Rattle.log_tools.proofs.HeadTexts.{skipped_added, event_added}
use Rattle.log_tools.proofs.describing.Said.add.Goals as goal

pub returns-in-None : goal.returns-in-None
returns-in-None c = record { said = nothing_said (added (said c.args.self.now)) c.args.line.now _ c.line_of.ensures c.in-None.is }

pub returns-in-Some-Skipped : goal.returns-in-Some-Skipped
returns-in-Some-Skipped c = record {
  said =
      line_said (added (said c.args.self.now)) c.args.line.now _ _ _ c.line_of.ensures c.in-Some-Skipped.is c.in-Some-Skipped.field-0-is
      ∙ skipped_added (said c.args.self.now);
}

pub returns-in-Some-Table : goal.returns-in-Some-Table
returns-in-Some-Table c = record {
  said = then_taken c.add_table.result (added (said c.args.self.now)) (said c.add_table.new.self) c.args.line.now _
      (line_said (added (said c.args.self.now)) c.args.line.now _ _ _ c.line_of.ensures c.in-Some-Table.is c.in-Some-Table.field-0-is)
      c.add_table.ensures;
}

pub returns-in-Some-Base : goal.returns-in-Some-Base
returns-in-Some-Base c = record {
  said = then_taken c.add_row.result (added (said c.args.self.now)) (said c.add_row.new.self) c.args.line.now _
      (line_said (added (said c.args.self.now)) c.args.line.now _ _ _ c.line_of.ensures c.in-Some-Base.is c.in-Some-Base.field-0-is)
      c.add_row.ensures;
}

pub returns-in-Some-Event : goal.returns-in-Some-Event
returns-in-Some-Event c = record {
  said =
      line_said (added (said c.args.self.now)) c.args.line.now _ _ _ c.line_of.ensures c.in-Some-Event.is c.in-Some-Event.field-0-is
      ∙ event_added (said c.args.self.now) _ _;
}
