-- What is appended piece by piece.
use Rattle.std.proofs.Common.{◌≡◌, ap, ℕ, ◌+◌, ◌<◌, ◌≤◌, List, [], ◌∷◌, ◌++◌, length, take, get_or, refl, Option, Result, Ok, Err, append-nil, subst}
use Rattle.std.specs.Io.KnownBytes.{Appends}
use Rattle.std.specs.Result.{OnOk}
use Rattle.std.specs.List.{flat_map}
use Rattle.std.proofs.KnownBytes.{Appends-trans}
use Rattle.std.proofs.lemmas.Grind.{flat_map-append}
use Rattle.std.proofs.lemmas.List.{take_more, take_all}

pub along : (a b : Option (List ℕ)) (x y : List ℕ) → x ≡ y → Appends a b x → Appends a b y
along a b x y e h = let P : List ℕ → Type 0 = λ t. Appends a b t in subst P e h

-- the texts of the first elements and of one more
pub text_more : {X : Type 0} (f : X → List ℕ) (xs : List X) (i : ℕ) (d x : X) → i < length xs → x ≡ get_or xs i d → flat_map f (take i xs) ++ f x ≡ flat_map f (take (i + 1) xs)
text_more f xs i d x below is =
    let front : take (i + 1) xs ≡ take i xs ++ get_or xs i d ∷ [] = take_more xs i d below in
    rw (front, flat_map-append f (take i xs) (get_or xs i d ∷ []), append-nil (f (get_or xs i d)), ← is) refl

-- it is appended behind theirs
pub piece_more : {X : Type 0} (f : X → List ℕ) (xs : List X) (i : ℕ) (d x : X) (a b c : Option (List ℕ)) → i < length xs → x ≡ get_or xs i d → Appends a b (flat_map f (take i xs)) →
    Appends b c (f x) → Appends a c (flat_map f (take (i + 1) xs))
piece_more f xs i d x a b c below is so_far one = along a c _ _ (text_more f xs i d x below is) (Appends-trans a b c _ _ so_far one)

-- all of them
pub pieces_all : {X : Type 0} (f : X → List ℕ) (xs : List X) (i : ℕ) (a b : Option (List ℕ)) → length xs ≤ i → Appends a b (flat_map f (take i xs)) → Appends a b (flat_map f xs)
pieces_all f xs i a b all h = along a b _ _ (ap (flat_map f) (take_all i xs all)) h

-- one text behind another, where the call that writes it is not refused
pub then_text : {T E : Type 0} (r : Result T E) (a b c : Option (List ℕ)) (x y : List ℕ) → Appends a b x → OnOk r (Appends b c y) → OnOk r (Appends a c (x ++ y))
then_text (Ok v) a b c x y front end = Appends-trans a b c x y front end
then_text (Err e) a b c x y front end = end
