-- Lines of words, and what they are read as.
use Rattle.std.proofs.Common.{◌≡◌, ◌∙◌, sym, ap, refl, ℕ, ℤ, ◌^◌, ◌<◌, ◌≤◌, Bool, true, false, leb, eqb, ◌&&◌, List, [], ◌∷◌, ◌++◌}
use Rattle.std.proofs.Common.{append-nil, append_assoc, length, map, codes, Option, Some, None, option_map, arith, FitsSigned, pos, negsuc, suc}
use Rattle.std.proofs.lemmas.Int.{ints}
use Rattle.std.specs.Prelude.{IfSome}
use Rattle.std.specs.Char.{is_ascii_digit}
use Rattle.std.specs.Int.{w64}
use Rattle.std.specs.List.{All, list_all}
use Rattle.std.specs.Fmt.{decimal, signed_decimal}
use Rattle.std.proofs.lemmas.Bool.{and_parts, and_from}
use Rattle.std.proofs.lemmas.Bool.Decides.{nat_tests}
use Rattle.std.proofs.lemmas.Fmt.{digits_decimal}
use Rattle.std.proofs.lemmas.List.Elements.{All-head, All-tail, All-nil, All-cons, All-append}
use Rattle.std.proofs.lemmas.Grind.{flat_map-append}
use Rattle.std.proofs.lemmas.List.Folds.{flat_map-map}
use Rattle.std.proofs.lemmas.List.Splits.{slice_split_none, slice_split_at}
use Rattle.gtid_set.proofs.NumberTexts.{own}
use Rattle.schema.specs.declared.RowId.{RowId}
use Rattle.schema.specs.declared.Table.{Table}
use Rattle.script_text.specs.Words.{Word, ◌>>=◌, words_of, number_in, integer_in, row_id_in, all_in, row_in}
use Rattle.script_text.specs.Number.{integer}
use Rattle.script_text.specs.Printing.{columns_text}
use Rattle.script_text.specs.Lines.{table, base, keyed_of, link_in, reference_of, unique_in, table_of, base_of, command_of, line_of, IsLine}
use Rattle.script_text.specs.Heads.{behind_spaces, kind_word, unique_words, parent_words, table_words, table_text, base_words, base_text}
use Rattle.script_text.specs.Laws.{HasRanges, TablesReadBack, BasesReadBack}
use Rattle.script_text.proofs.NumberTexts.{number_again, integer_again}

-- ---- what is written, part by part

pub table_parts : (t : Table) → table_text t ≡ (codes "table " ++ (decimal t.id ++ (codes " " ++ decimal t.columns))) ++ ((32 ∷ kind_word t.keyed)
    ++ (behind_spaces (unique_words t.unique) ++ behind_spaces (parent_words t.parent)))
unfolding table_text
table_parts t =
    ap (λ l. codes "table " ++ (decimal t.id ++ (32 ∷ (decimal t.columns ++ ((32 ∷ kind_word t.keyed) ++ l)))))
    (flat_map-append (λ (word : Word). 32 ∷ word) (unique_words t.unique) (parent_words t.parent))
    ∙ ap (λ l. codes "table " ++ l) (sym (append_assoc (decimal t.id) (32 ∷ decimal t.columns) _))

pub base_parts : (row : RowId) (columns : List ℤ) → base_text row columns ≡ (codes "base " ++ (decimal row.table ++ (codes " " ++ signed_decimal row.key))) ++ columns_text columns
unfolding base_text
base_parts row columns =
    ap (λ l. codes "base " ++ (decimal row.table ++ (32 ∷ (signed_decimal row.key ++ l)))) (flat_map-map (λ (word : Word). 32 ∷ word) signed_decimal columns)
    ∙ ap (λ l. codes "base " ++ l) (sym (append_assoc (decimal row.table) (32 ∷ signed_decimal row.key) (columns_text columns)))

-- ---- words without a blank

-- each character of a word is above a space
abbrev is_plain : Word → Bool
is_plain word = list_all (λ b. leb 33 b) word

digits_plain : (ds : List ℕ) → list_all is_ascii_digit ds ≡ true → is_plain ds ≡ true
digits_plain [] e = refl
digits_plain (d ∷ ds) e =
    let parts = and_parts (is_ascii_digit d) (list_all is_ascii_digit ds) e in
    let high : leb 33 d ≡ true = grind (arith, nat_tests, (and_parts (leb 48 d) (leb d 57) parts.0).0) in
    and_from _ _ high (digits_plain ds parts.1)

decimal_plain : (n : ℕ) → n < 2 ^ 64 → is_plain (decimal n) ≡ true
decimal_plain n h = digits_plain (decimal n) (digits_decimal own n h)

signed_plain : (z : ℤ) → FitsSigned w64 z → is_plain (signed_decimal z) ≡ true
signed_plain (pos n) h = decimal_plain n (omega (arith, ints))
signed_plain (negsuc m) h = decimal_plain (suc m) (omega (arith, ints))

-- a byte below 33 is not in it
no_byte : (c : ℕ) → c < 33 → (word : Word) → is_plain word ≡ true → All (λ b. eqb b c ≡ false) word
no_byte c low [] e = All-nil (λ b. eqb b c ≡ false)
no_byte c low (b ∷ bs) e =
    let parts = and_parts (leb 33 b) (is_plain bs) e in
    All-cons (λ b. eqb b c ≡ false) b bs (grind (arith, nat_tests, parts.0)) (no_byte c low bs parts.1)

-- ---- words behind one another

-- words behind others
all_plain : (front more : List Word) → list_all is_plain front ≡ true → list_all is_plain more ≡ true → list_all is_plain (front ++ more) ≡ true
all_plain [] more h rest = rest
all_plain (word ∷ front) more h rest =
    let parts = and_parts (is_plain word) (list_all is_plain front) h in and_from _ _ parts.0 (all_plain front more parts.1 rest)

-- words with a space before each but the first are cut into these words
words_back : (first : Word) (words : List Word) → is_plain first ≡ true → list_all is_plain words ≡ true → words_of (first ++ behind_spaces words) ≡ first ∷ words
words_back first [] plain all = ap words_of (append-nil first) ∙ slice_split_none (λ b. eqb b 32) first (no_byte 32 (omega arith) first plain)
words_back first (word ∷ words) plain all =
    let parts = and_parts (is_plain word) (list_all is_plain words) all in
    slice_split_at (λ b. eqb b 32) first 32 (word ++ behind_spaces words) (no_byte 32 (omega arith) first plain) refl
    ∙ ap (λ rest. first ∷ rest) (words_back word words parts.0 parts.1)

no_end : (words : List Word) → list_all is_plain words ≡ true → IsLine (behind_spaces words)
no_end [] all = All-nil (λ b. eqb b 10 ≡ false)
no_end (word ∷ words) all =
    let parts = and_parts (is_plain word) (list_all is_plain words) all in
    All-cons (λ b. eqb b 10 ≡ false) 32 (word ++ behind_spaces words) refl
    (All-append (λ b. eqb b 10 ≡ false) word (behind_spaces words) (no_byte 10 (omega arith) word parts.0) (no_end words parts.1))

one_line : (first : Word) (words : List Word) → is_plain first ≡ true → list_all is_plain words ≡ true → IsLine (first ++ behind_spaces words)
one_line first words plain all = All-append (λ b. eqb b 10 ≡ false) first (behind_spaces words) (no_byte 10 (omega arith) first plain) (no_end words all)

-- ---- numbers taken off the front

number_taken : (bound n : ℕ) (rest : List Word) → bound ≤ 2 ^ 64 → n < bound → number_in bound (decimal n ∷ rest) ≡ Some (n, rest)
unfolding number_in
number_taken bound n rest low h = ap (λ o. o >>= λ n. Some (n, rest)) (number_again bound n low h)

integer_taken : (z : ℤ) (rest : List Word) → FitsSigned w64 z → integer_in (signed_decimal z ∷ rest) ≡ Some (z, rest)
unfolding integer_in
integer_taken z rest h = ap (λ o. o >>= λ z. Some (z, rest)) (integer_again z h)

-- ---- tables

kind_plain : (keyed : Bool) → is_plain (kind_word keyed) ≡ true
kind_plain true = refl
kind_plain false = refl

kind_back : (keyed : Bool) → keyed_of (kind_word keyed) ≡ Some keyed
kind_back true = refl
kind_back false = refl

unique_plain : (unique : Option ℕ) → IfSome unique (λ column. column < 2 ^ 8) → list_all is_plain (unique_words unique) ≡ true
unique_plain None h = refl
unique_plain (Some column) h = and_from _ _ (decimal_plain column (omega arith)) refl

parent_plain : (parent : Option (ℕ × ℕ)) → IfSome parent (λ link. (link.0 < 2 ^ 8) × (link.1 < 2 ^ 16)) → list_all is_plain (parent_words parent) ≡ true
parent_plain None h = refl
parent_plain (Some link) h = and_from _ _ (decimal_plain link.0 (omega (arith, h.0))) (and_from _ _ (decimal_plain link.1 (omega (arith, h.1))) refl)

unique_back : (unique : Option ℕ) (parent : Option (ℕ × ℕ)) → IfSome unique (λ column. column < 2 ^ 8) → unique_in (unique_words unique ++ parent_words parent) ≡ Some (unique, parent_words parent)
unfolding unique_in
unique_back None None h = refl
unique_back None (Some link) h = refl
unique_back (Some column) parent h = ap (option_map (λ column. (Some column.0, column.1))) (number_taken (2 ^ 8) column (parent_words parent) (omega arith) h)

parent_back : (parent : Option (ℕ × ℕ)) → IfSome parent (λ link. (link.0 < 2 ^ 8) × (link.1 < 2 ^ 16)) → reference_of (parent_words parent) ≡ Some parent
unfolding reference_of link_in
parent_back None h = refl
parent_back (Some link) h =
    rw (number_taken (2 ^ 8) link.0 (decimal link.1 ∷ []) (omega arith) h.0, number_taken (2 ^ 16) link.1 [] (omega arith) h.1) refl

table_plain : (t : Table) → HasRanges t → list_all is_plain (table_words t) ≡ true
table_plain t h =
    and_from _ _ (decimal_plain t.id (omega (arith, h.id)))
    (and_from _ _ (decimal_plain t.columns (omega (arith, h.columns)))
    (and_from _ _ (kind_plain t.keyed) (all_plain (unique_words t.unique) (parent_words t.parent) (unique_plain t.unique h.unique) (parent_plain t.parent h.parent))))

table_back : (t : Table) → HasRanges t → table_of (table_words t) ≡ Some t
unfolding table_of
table_back t h =
    rw (
      number_taken (2 ^ 16) t.id _ (omega arith) h.id,
      number_taken (2 ^ 8) t.columns _ (omega arith) h.columns,
      kind_back t.keyed,
      unique_back t.unique t.parent h.unique,
      parent_back t.parent h.parent,
    ) refl

table_about : (t : Table) → HasRanges t → line_of (table_text t) ≡ Some (table (table_words t))
unfolding line_of table_text command_of
table_about t h = ap command_of (words_back (codes "table") (table_words t) refl (table_plain t h))

table_is_line : (t : Table) → HasRanges t → IsLine (table_text t)
unfolding table_text
table_is_line t h = one_line (codes "table") (table_words t) refl (table_plain t h)

pub tables_read_back : TablesReadBack
tables_read_back t h = record { one = table_is_line t h; about = table_about t h; read = table_back t h }

-- ---- rows at the start

columns_plain : (columns : List ℤ) → All (λ z. FitsSigned w64 z) columns → list_all is_plain (map signed_decimal columns) ≡ true
columns_plain [] h = refl
columns_plain (z ∷ zs) h = and_from _ _ (signed_plain z (All-head (λ z. FitsSigned w64 z) z zs h)) (columns_plain zs (All-tail (λ z. FitsSigned w64 z) z zs h))

columns_back : (columns : List ℤ) → All (λ z. FitsSigned w64 z) columns → all_in integer (map signed_decimal columns) ≡ Some columns
unfolding all_in
columns_back [] h = refl
columns_back (z ∷ zs) h =
    rw (integer_again z (All-head (λ z. FitsSigned w64 z) z zs h), columns_back zs (All-tail (λ z. FitsSigned w64 z) z zs h)) refl

few : (n : ℕ) → 1 ≤ n → n ≤ 16 → (leb 1 n && leb n 16) ≡ true
few n some most = grind (arith, nat_tests)

row_back : (columns : List ℤ) → All (λ z. FitsSigned w64 z) columns → 1 ≤ length columns → length columns ≤ 16 → row_in (map signed_decimal columns) ≡ Some columns
unfolding row_in
row_back columns h some most = rw (columns_back columns h, few (length columns) some most) refl

base_plain : (row : RowId) (columns : List ℤ) → row.table < 2 ^ 16 → FitsSigned w64 row.key → All (λ z. FitsSigned w64 z) columns → list_all is_plain (base_words row columns) ≡ true
base_plain row columns id key h = and_from _ _ (decimal_plain row.table (omega (arith, id))) (and_from _ _ (signed_plain row.key key) (columns_plain columns h))

id_back : (row : RowId) (rest : List Word) → row.table < 2 ^ 16 → FitsSigned w64 row.key → row_id_in (decimal row.table ∷ signed_decimal row.key ∷ rest) ≡ Some (row, rest)
unfolding row_id_in
id_back row rest id key = rw (number_taken (2 ^ 16) row.table (signed_decimal row.key ∷ rest) (omega arith) id, integer_taken row.key rest key) refl

base_back : (row : RowId) (columns : List ℤ) → row.table < 2 ^ 16 → FitsSigned w64 row.key → row_in (map signed_decimal columns) ≡ Some columns → base_of (base_words row columns) ≡ Some (row, columns)
unfolding base_of
base_back row columns id key h = rw (id_back row (map signed_decimal columns) id key, h) refl

base_about : (row : RowId) (columns : List ℤ) → list_all is_plain (base_words row columns) ≡ true → line_of (base_text row columns) ≡ Some (base (base_words row columns))
unfolding line_of base_text command_of
base_about row columns plain = ap command_of (words_back (codes "base") (base_words row columns) refl plain)

base_is_line : (row : RowId) (columns : List ℤ) → list_all is_plain (base_words row columns) ≡ true → IsLine (base_text row columns)
unfolding base_text
base_is_line row columns plain = one_line (codes "base") (base_words row columns) refl plain

pub bases_read_back : BasesReadBack
bases_read_back row columns id key fit some most =
    let plain = base_plain row columns id key fit in
    record { one = base_is_line row columns plain; about = base_about row columns plain; read = base_back row columns id key (row_back columns fit some most) }
