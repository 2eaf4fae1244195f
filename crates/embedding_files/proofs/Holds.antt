-- What was opened or made holds just its records, and a source goes on from them.
use Rattle.std.proofs.Common.{◌≡◌, ◌⊎◌, inl, inr, ℕ, List, sym, ap, subst}
use Rattle.source_core.specs.Source.{Source}
use Rattle.source_core.specs.AtLog.{source_at}
use Rattle.record_codec.specs.declared.records.Record.{Record}
use Rattle.log_file.specs.declared.form.Form.TheVariants.{Three}
use Rattle.log_file.specs.Head.{Head}
use Rattle.log_set.specs.Set.{SetOn}
use Rattle.stored_log.specs.Begun.{IsFound, IsMade}
use Rattle.source_shared.specs.Engine.{HoldsAll}

pub holds_all : {D : Type 0} (set : SetOn D) (records : List Record) → ((contents : List (List ℕ)) × IsFound contents set) ⊎ IsMade set → set.log.head.form ≡ Three
    → set.log.records ≡ records → HoldsAll set.log records
holds_all set records (inl found) form are = record {
  records = are;
  first = λ _. found.1.begins.first;
  form = form;
  waiting = found.1.begins.waiting;
  running = found.1.begins.sound;
}
holds_all set records (inr made) form are = record {
  records = are;
  first = λ _. ap (λ (h : Head). h.first) made.new.head;
  form = form;
  waiting = made.new.waiting;
  running = made.new.running;
}

-- what is said of a source at a log is said in its own parts
pub at_its_own : {at : Source} (s : Source) → s ≡ at → at ≡ source_at at.tables at.base at.limit at.kind at.log → s ≡ source_at s.tables s.base s.limit s.kind s.log
at_its_own s e is = subst (λ (x : Source). x ≡ source_at x.tables x.base x.limit x.kind x.log) (sym e) is
