-- What is kept behind what is gone.
use Rattle.std.proofs.Common.{◌≡◌, ◌∙◌, sym, ap, refl, List, [], ◌∷◌, ◌++◌, length, append_assoc}

pub pushed_past : {T : Type 0} (gone kept more : List T) (x : T) → more ≡ kept ++ x ∷ [] → gone ++ more ≡ (gone ++ kept) ++ x ∷ []
pushed_past gone kept more x is = ap (λ l. gone ++ l) is ∙ sym (append_assoc gone kept (x ∷ []))

pub none_gone : {T : Type 0} (gone kept : List T) → length gone ≡ 0 → kept ≡ gone ++ kept
none_gone [] kept none = refl
none_gone (x ∷ gone) kept none = cc
