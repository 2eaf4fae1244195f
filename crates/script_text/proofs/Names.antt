-- Events by their names.
use Rattle.std.proofs.Common.{◌≡◌, ◌∙◌, sym, ap, true, List, Option}
use Rattle.std.proofs.lemmas.Slice.Eq.{bytes_eq-Decides}
use Rattle.std.specs.Str.{bytes_eq}
use Rattle.world.specs.declared.events.Event.{Event}
use Rattle.script_text.specs.Words.{Word}
use Rattle.script_text.specs.Command.{event_of}

-- the event of a name is that of its text
pub named : (words : List Word) (name own : Word) {event : Option Event} → true ≡ bytes_eq name own → event ≡ event_of own words → event ≡ event_of name words
named words name own e is = is ∙ ap (λ n. event_of n words) (sym ((bytes_eq-Decides name own).0 (sym e)))
