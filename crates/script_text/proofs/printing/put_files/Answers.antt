use Rattle.std.proofs.Common.{◌≡◌, ◌∙◌, sym, ap, subst, ℕ, List, ◌∷◌, ◌++◌, map, Vec, Global, Some}
use Rattle.std.specs.List.{flat_map}
use Rattle.std.specs.Prelude.{OnOk}
use Rattle.std.specs.Io.KnownBytes.{Appends}
use Rattle.std.proofs.lemmas.List.Folds.{flat_map-map}
use Rattle.script_text.specs.HexText.{hex_text}
use Rattle.script_text.specs.Printing.{further_file, files_text}
use Rattle.script_text.proofs.Pieces.{then_text}
use Rattle.script_text.proofs.printing.put_files.Goals as goal

-- the first file, and the others behind it
files_joined : {V : Type 0} (bytes : V → List ℕ) (first : V) (further : List V)
    → hex_text (bytes first) ++ flat_map (λ file. further_file (bytes file)) further ≡ files_text (map bytes (first ∷ further))
files_joined bytes first further = ap (λ text. hex_text (bytes first) ++ text) (sym (flat_map-map further_file bytes further))

pub returns : goal.returns
returns c =
    let first = c.in-Some.first.now in
    let further = c.in-Some.further.now in
    subst (λ text. OnOk c.put_further.result (Appends (Some c.args.out.now.items) (Some c.put_further.new.out.items) text))
    (files_joined (λ (file : Vec ℕ Global). file.items) first further
    ∙ ap (λ files. files_text (map (λ (file : Vec ℕ Global). file.items) files)) (sym c.in-Some.ensures.cases.0))
    (then_text c.put_further.result (Some c.args.out.now.items) (Some c.put_hex.new.out.items) (Some c.put_further.new.out.items) (hex_text first.items)
    (flat_map (λ (file : Vec ℕ Global). further_file file.items) further)
    (rw c.deref.ensures.value at c.in_ok-put_hex.ensures.text) c.put_further.ensures)
