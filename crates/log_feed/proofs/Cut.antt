-- A beginning of a wire's text: what it is read as.
use mathlib.Core.List.{IsPrefix}
use Rattle.std.proofs.Common.{◌≡◌, ◌∙◌, sym, ap, subst, refl, ℕ, zero, suc, ◌+◌, ◌<◌, true, false, ltb, List, [], ◌∷◌, ◌++◌, length, take, drop, append_assoc, length-append, inl, inr, arith}
use Rattle.std.specs.Int.{w32, to_be_bytes, from_be_bytes}
use Rattle.std.specs.List.{flat_map, AllByRecursion}
use Rattle.std.proofs.lemmas.Bool.{cases_lt, lt-ltb, le-ltb}
use Rattle.std.proofs.lemmas.List.{take_at, take-append-le, take-append-drop, length-take, nil_from_length}
use Rattle.schema.specs.Schema.{is_within}
use Rattle.record_codec.specs.declared.records.Record.{Record}
use Rattle.record_codec.specs.declared.version.Version.TheVariants.{Two}
use Rattle.record_codec.specs.Version.{least_len, greatest_len}
use Rattle.record_codec.specs.Spelling.{fields, spelling, HasSpelling}
use Rattle.record_codec.specs.Reading.{framed_at, record_at}
use Rattle.record_codec.proofs.Fields.{wide32}
use Rattle.record_codec.proofs.RefFields.{is_within-from}
use Rattle.record_codec.proofs.Lengths.{length-spelling, fields_within}
use Rattle.record_stream.specs.Stream.{IsPartial, Splits}
use Rattle.record_stream.proofs.Whole.{partial_none}
use Rattle.record_stream.proofs.Cuts.{one_split}
use Rattle.log_feed.specs.Feed.{wire_head, BeginsWith}
use Rattle.log_feed.specs.Laws.{OneHead, HasFirst, CutAnywhere}
use Rattle.log_feed.proofs.Heads.{cut_same, fixed_of, one_fixed, head_split}

-- ---- heads

pub one_head : OneHead
one_head bytes source source' first first' text text' rest rest' h h' =
    let both = sym (head_split bytes source first text rest h) ∙ head_split bytes source' first' text' rest' h' in
    let fixed = fixed_of source first text h.is_head in
    let fixed' = fixed_of source' first' text' h'.is_head in
    let same = one_fixed source source' first first' (length text) (length text') (text ++ rest) (text' ++ rest') fixed fixed' both in
    let behind = cut_same text text' rest rest' same.lens same.rests in
    record { sources = same.sources; firsts = same.firsts; texts = behind.0; rests = behind.1 }

-- ---- records

-- the first bytes of a record are less than a record
partial_spelling : (r : Record) (bytes more : List ℕ) → HasSpelling Two r → bytes ++ more ≡ spelling Two r → length bytes < length (spelling Two r) → IsPartial Two bytes
unfolding record_at framed_at spelling
partial_spelling r bytes more fits e few = elim (cases_lt (length bytes) 4) [
  | inl short ↦ rw (lt-ltb (length bytes) 4 short) refl
  | inr long ↦
      let n = length (fields Two r) in
      let within = fields_within Two r fits in
      let front : take 4 bytes ≡ to_be_bytes w32 n = sym (take-append-le 4 bytes more long) ∙ ap (take 4) e ∙ take_at (to_be_bytes w32 n) (fields Two r) 4 refl in
      let number : from_be_bytes w32 (take 4 bytes) ≡ n = ap (from_be_bytes w32) front ∙ wide32.again n (omega (arith, within.1)) in
      let t0 : ltb (length bytes) 4 ≡ false = le-ltb _ _ long in
      let t1 : is_within (least_len Two) (greatest_len Two) n ≡ true = is_within-from (least_len Two) (greatest_len Two) n within.0 within.1 in
      let t2 : ltb (length bytes) (4 + n) ≡ true = lt-ltb _ _ (omega (arith, few, length-spelling Two r)) in
      rw (t0, number, t1, t2) refl
]

-- one record, and what is read of the bytes after it
first_after : (r : Record) (records : List Record) (bytes rest : List ℕ) → HasSpelling Two r → bytes ≡ spelling Two r ++ rest → HasFirst records rest → HasFirst (r ∷ records) bytes
first_after r records bytes rest fits e h =
    let split = h.splits.first.split in
    record {
      those = r ∷ h.those;
      begin = (h.begin.0, ap (λ (l : List Record). r ∷ l) h.begin.1);
      rest = h.rest;
      splits = record {
        first = record {
          split = e ∙ ap (λ (l : List ℕ). spelling Two r ++ l) split ∙ sym (append_assoc (spelling Two r) (flat_map (spelling Two) h.those) h.rest);
          have = (fits, h.splits.first.have);
        };
        partial = h.splits.partial;
      };
    }

-- so the first bytes of records are the first of them, and less than one more
pub first_of_records : (records : List Record) (bytes more : List ℕ) → AllByRecursion (HasSpelling Two) records → bytes ++ more ≡ flat_map (spelling Two) records → HasFirst records bytes
first_of_records [] bytes more have e =
    let none : bytes ≡ [] = nil_from_length bytes (omega (arith, ap (λ (l : List ℕ). length l) e, length-append bytes more)) in
    record { those = []; begin = ([], refl); rest = []; splits = record { first = record { split = none; have = tt }; partial = partial_none Two } }
first_of_records (r ∷ records) bytes more have e = elim (cases_lt (length bytes) (length (spelling Two r))) [
  | inl few ↦
      let n = length bytes in
      let whole : bytes ≡ take n (spelling Two r) =
      sym (take_at bytes more n refl) ∙ ap (take n) e ∙ take-append-le n (spelling Two r) (flat_map (spelling Two) records) (omega (arith, few)) in
      let split : bytes ++ drop n (spelling Two r) ≡ spelling Two r = ap (λ (l : List ℕ). l ++ drop n (spelling Two r)) whole ∙ take-append-drop n (spelling Two r) in
      record {
        those = [];
        begin = (r ∷ records, refl);
        rest = bytes;
        splits = record { first = record { split = refl; have = tt }; partial = partial_spelling r bytes (drop n (spelling Two r)) have.0 split few };
      }
  | inr enough ↦
      let n = length (spelling Two r) in
      let regrouped : take n bytes ++ (drop n bytes ++ more) ≡ spelling Two r ++ flat_map (spelling Two) records =
      sym (append_assoc (take n bytes) (drop n bytes) more) ∙ ap (λ (l : List ℕ). l ++ more) (take-append-drop n bytes) ∙ e in
      let parts = cut_same (take n bytes) (spelling Two r) (drop n bytes ++ more) (flat_map (spelling Two) records) (omega (arith, length-take n bytes, enough)) regrouped in
      let split = sym (take-append-drop n bytes) ∙ ap (λ (l : List ℕ). l ++ drop n bytes) parts.0 in
      first_after r records bytes (drop n bytes) have.0 split (first_of_records records (drop n bytes) more have.1 parts.1)
]

-- whatever else they are split into is just this
pub begins_records : (records those : List Record) (bytes more rest : List ℕ) → AllByRecursion (HasSpelling Two) records → bytes ++ more ≡ flat_map (spelling Two) records →
    Splits Two bytes those rest → IsPrefix those records
begins_records records those bytes more rest have e splits =
    let h = first_of_records records bytes more have e in
    subst (λ (l : List Record). IsPrefix l records) (sym (one_split Two bytes those h.those rest h.rest splits h.splits).0) h.begin

-- ---- a wire's text

-- what is cut begins as the whole does
begins_as : (n : ℕ) (bytes more : List ℕ) → IsPrefix (take n bytes) (take n (bytes ++ more))
begins_as zero bytes more = ([], refl)
begins_as (suc n) [] more = (take (suc n) more, refl)
begins_as (suc n) (b ∷ bytes) more = let t = begins_as n bytes more in (t.0, ap (λ (l : List ℕ). b ∷ l) t.1)

pub cut_anywhere : CutAnywhere
unfolding wire_head
cut_anywhere source first text records bytes is have begins =
    let head = wire_head source first text in
    let n = length head in
    let body = flat_map (spelling Two) records in
    let whole : BeginsWith (bytes ++ begins.0) source first text body = record { is_head = is; split = begins.1 } in
    elim (cases_lt (length bytes) n) [
      | inl few ↦ inl (
        subst (λ (l : List ℕ). IsPrefix (take 8 bytes) (take 8 l)) begins.1 (begins_as 8 bytes begins.0),
        λ source' first' text' rest h.
            let longer : BeginsWith (bytes ++ begins.0) source' first' text' (rest ++ begins.0) =
            record { is_head = h.is_head; split = ap (λ (l : List ℕ). l ++ begins.0) h.split ∙ append_assoc (wire_head source' first' text') rest begins.0 } in
            let same = one_head (bytes ++ begins.0) source source' first first' text text' body (rest ++ begins.0) whole longer in
            let heads : wire_head source' first' text' ≡ head =
            ap (λ (l : List ℕ). wire_head l first' text') (sym same.sources) ∙ ap (λ (m : ℕ). wire_head source m text') (sym same.firsts) ∙ ap (wire_head source first) (sym same.texts) in
            omega (arith, few, ap (λ (l : List ℕ). length l) (h.split ∙ ap (λ (l : List ℕ). l ++ rest) heads), length-append head rest),
      )
      | inr enough ↦
          let regrouped : take n bytes ++ (drop n bytes ++ begins.0) ≡ head ++ body =
          sym (append_assoc (take n bytes) (drop n bytes) begins.0) ∙ ap (λ (l : List ℕ). l ++ begins.0) (take-append-drop n bytes) ∙ begins.1 in
          let parts = cut_same (take n bytes) head (drop n bytes ++ begins.0) body (omega (arith, length-take n bytes, enough)) regrouped in
          inr (record {
            left = drop n bytes;
            head = record { is_head = is; split = sym (take-append-drop n bytes) ∙ ap (λ (l : List ℕ). l ++ drop n bytes) parts.0 };
            records_are = first_of_records records (drop n bytes) begins.0 have parts.1;
          })
    ]
