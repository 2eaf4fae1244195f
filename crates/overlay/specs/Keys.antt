-- Sets of keys that are compared by an order, given as lists: order and repeats do not count.
use Rattle.std.specs.Prelude.{Bool, ◌&&◌, List}
use Rattle.std.specs.List.{list_all, list_any}
use Rattle.std.specs.Ordering.{eq_by_cmp}
use Rattle.std.specs.declared.cmp.Ordering.{Ordering}

-- whether the key is among these
abbrev pub has_key : {K : Type 0} → (K → K → Ordering) → List K → K → Bool
has_key R keys q = list_any (eq_by_cmp R q) keys

-- whether two lists are one set of keys: each key of the one is in the other
abbrev pub same_keys : {K : Type 0} → (K → K → Ordering) → List K → List K → Bool
same_keys R xs ys = list_all (has_key R ys) xs && list_all (has_key R xs) ys
