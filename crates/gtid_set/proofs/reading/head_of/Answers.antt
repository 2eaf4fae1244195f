use Rattle.std.proofs.Common.{◌∙◌, sym, ap, List, ℕ, length, get_or, take, arith}
use Rattle.std.proofs.lemmas.Result.{err_from_is_err_and}
use Rattle.std.proofs.lemmas.Str.{IsCharBoundary-after_ascii}
use Rattle.uuid.specs.Text.{parsed_hyphenated}
use Rattle.gtid_set.specs.Reading.{source_at}
use Rattle.gtid_set.proofs.Heads.{head_short, head_bad, head_ends, head_goes, head_is}
use Rattle.gtid_set.proofs.reading.head_of.Goals as goal
use Rattle.gtid_set.proofs.reading.head_of.Goals.{then-bytes-eq-NAME_LEN-via-then-bytes-eq-NAME_LEN, then-bytes-eq-NAME_LEN-via-else-bytes-eq-NAME_LEN+then-bytes-ne58}

pub returns-then-bytes-lt-NAME_LEN-clause-value : goal.returns-then-bytes-lt-NAME_LEN-clause-value
returns-then-bytes-lt-NAME_LEN-clause-value c = head_short c.args.text.now (omega (arith, ap (λ (l : List ℕ). length l) c.as_bytes-bytes.ensures.value))

pub returns-in_err-source-clause-value : goal.returns-in_err-source-clause-value
returns-in_err-source-clause-value c =
    let p = err_from_is_err_and c.from_residual.result c.from_residual.ensures.1 in
    let same = ap (λ (l : List ℕ). source_at (parsed_hyphenated (take 36 l))) c.as_bytes-bytes.ensures.value in
    rw (p.1, p.2) (head_bad c.args.text.now c.in_err-source.field-0.0 (sym same ∙ sym c.in_err-source.ensures))

pub returns-then-bytes-eq-NAME_LEN-clause-value : goal.returns-then-bytes-eq-NAME_LEN-clause-value
returns-then-bytes-eq-NAME_LEN-clause-value c =
    let text = c.args.text.now in
    let is = c.as_bytes-bytes.ensures.value in
    let long = ap (λ (l : List ℕ). length l) is in
    let same = ap (λ (l : List ℕ). source_at (parsed_hyphenated (take 36 l))) is in
    let found = sym same ∙ sym c.in_ok-source.ensures in
    elim c.then-bytes-eq-NAME_LEN.branch [
      | then-bytes-eq-NAME_LEN-via-then-bytes-eq-NAME_LEN w ↦ head_ends text c.in_ok-source.source found (omega (arith, long))
      | then-bytes-eq-NAME_LEN-via-else-bytes-eq-NAME_LEN+then-bytes-ne58 w ↦
          head_goes text c.in_ok-source.source found (omega (arith, long)) (λ e. w.if-bytes-ne58.true (ap (λ (l : List ℕ). get_or l 36 0) is ∙ e))
    ]

pub returns-clause-value : goal.returns-clause-value
returns-clause-value c =
    let is = c.as_bytes-bytes.ensures.value in
    let long = ap (λ (l : List ℕ). length l) is in
    let same = ap (λ (l : List ℕ). source_at (parsed_hyphenated (take 36 l))) is in
    let colon = sym (ap (λ (l : List ℕ). get_or l 36 0) is) ∙ c.if-bytes-ne58.false in
    head_is c.args.text.now c.in_ok-source.source (sym same ∙ sym c.in_ok-source.ensures) (omega (arith, long)) colon

pub returns-clause-boundary : goal.returns-clause-boundary
returns-clause-boundary c =
    let is = c.as_bytes-bytes.ensures.value in
    let long = ap (λ (l : List ℕ). length l) is in
    let colon = sym (ap (λ (l : List ℕ). get_or l 36 0) is) ∙ c.if-bytes-ne58.false in
    IsCharBoundary-after_ascii c.args.text.now 36 c.utf8.text (omega (arith, long)) (omega (arith, colon))
