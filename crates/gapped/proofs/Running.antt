-- Commits in any order leave a gapped state.
use Rattle.std.proofs.Common.{◌≡◌, ◌∙◌, sym, ap, subst, refl, ℕ, ◌+◌, true, false, true≢false, inl, inr, List, [], ◌∷◌, ◌++◌, append_assoc, Some}
use Rattle.std.specs.List.{AllByRecursion}
use Rattle.std.proofs.lemmas.Bool.{false_from_ne_true}
use Rattle.std.proofs.lemmas.List.{append-nil}
use Rattle.std.proofs.lemmas.Option.{same_Some}
use Rattle.schema.specs.declared.Table.{Table}
use Rattle.schema.specs.Rows.{conflicts}
use Rattle.schema.proofs.Conflicts.{both_ways}
use Rattle.schema.proofs.Lists.{AllByRecursion-front, AllByRecursion-behind}
use Rattle.rows.specs.Database.{Database, NoValueTwice}
use Rattle.record_codec.specs.declared.records.Record.{Record}
use Rattle.record_codec.specs.Group.{AreNumbered}
use Rattle.record_codec.specs.Log.{after, touched}
use Rattle.record_codec.proofs.Logs.{after-push, apart_after}
use Rattle.executor.specs.Laws.{IsGood}
use Rattle.scheduler.specs.Gnos.{has_gno}
use Rattle.gapped.specs.Gapped.{chosen, gapped, AreChosen, IsClosed, records_at, MayCommit, AreCommits}
use Rattle.gapped.specs.Laws.{RanIsGapped}
use Rattle.gapped.proofs.Choosing.{one_split, record_at_number, chosen_each, one_more, among_pushed, records_at_pushed, are_chosen_more}
use Rattle.gapped.proofs.Swapping.{Leads, leads-none, leads-append, leads-parts, insert_within}

-- ---- what is chosen behind a record that is not

-- what is true of a record wherever the log is split before it is true of all behind a beginning of the log
all_behind : (P : Record → Type 0) (log front rest : List Record) → log ≡ front ++ rest →
    ((between : List Record) (r : Record) (behind : List Record) → log ≡ (front ++ between) ++ r ∷ behind → P r) → AllByRecursion P rest
all_behind P log front [] e each = tt
all_behind P log front (r ∷ rest) e each = (
  each [] r rest (e ∙ ap (λ l. l ++ r ∷ rest) (sym (append-nil front))),
  all_behind P log (front ++ r ∷ []) rest (e ∙ sym (append_assoc front (r ∷ []) rest))
      (λ between q behind split. each (r ∷ between) q behind (split ∙ ap (λ l. l ++ q ∷ behind) (append_assoc front (r ∷ []) between))),
)

-- Of a closed set none that stands behind a record that is not chosen conflicts with it: else it would be.
free : (gnos : List ℕ) (log front rest : List Record) (rec : Record) → IsClosed gnos log → log ≡ front ++ rec ∷ rest →
    has_gno gnos rec.gno ≡ false →
    AllByRecursion (λ (other : Record). conflicts (touched other) (touched rec) ≡ false) (chosen gnos rest)
free gnos log front rest rec closed split new =
    chosen_each is_free gnos rest
    (all_behind (λ (other : Record). has_gno gnos other.gno ≡ true → is_free other) log (front ++ rec ∷ []) rest
    (split ∙ sym (append_assoc front (rec ∷ []) rest))
    (λ between other behind e is. both_ways (touched other) (touched rec)
    ∙ false_from_ne_true (conflicts (touched rec) (touched other)) (λ meet.
    let earlier = closed ((front ++ rec ∷ []) ++ between) other behind e is in
    let before = AllByRecursion-front (chosen_if other) (front ++ rec ∷ []) between earlier in
    true≢false (sym ((AllByRecursion-behind (chosen_if other) front (rec ∷ []) before).0 meet) ∙ new))))
  where
    is_free : Record → Type 0
    is_free = λ (other : Record). conflicts (touched other) (touched rec) ≡ false

    chosen_if : Record → Record → Type 0
    chosen_if other = λ (before : Record). conflicts (touched before) (touched other) ≡ true → has_gno gnos before.gno ≡ true

-- ---- one commit more

-- The numbers choose a closed set of the log, and what their records leave in log order they leave in the order of the numbers too.
pub record HaveRun (ts : List Table) (base : Database) (log : List Record) (gnos : List ℕ) (left : Database) : Type 0 where
  pub closed : IsClosed gnos log
  pub ran : after ts base (records_at log gnos) ≡ Some left
  pub leads : Leads ts (chosen gnos log) base left

none_have_run : (ts : List Table) (base : Database) (log : List Record) → HaveRun ts base log [] base
none_have_run ts base log = record {
  closed = λ front next rest e is. absurd (true≢false (sym is));
  ran = refl;
  leads = subst (λ (l : List Record). Leads ts l base base) (sym (none log)) (leads-none ts base);
}
  where
    none : (rs : List Record) → chosen [] rs ≡ []
    none [] = refl
    none (r ∷ rs) = none rs

module _ (ts : List Table) (base : Database) (log : List Record) (gnos : List ℕ) (left : Database) (front rest : List Record)
    (rec : Record) where
  -- it comes behind them, and stands at its place in the log
  pub one_has_run : NoValueTwice ts base → AreNumbered 1 log → HaveRun ts base log gnos left → log ≡ front ++ rec ∷ rest →
      has_gno gnos rec.gno ≡ false → AreChosen gnos front rec →
      (good : IsGood ts rec left) → HaveRun ts base log (gnos ++ rec.gno ∷ []) good.leaves
  one_has_run apart numbered have split new before good =
      let one = one_more gnos log front rest rec numbered split new in
      let in_parts : Leads ts (chosen gnos front ++ chosen gnos rest) base left =
      subst (λ (l : List Record). Leads ts l base left) one.before have.leads in
      let parts = leads-parts ts (chosen gnos front) (chosen gnos rest) base left in_parts in
      let apart_there = apart_after ts base parts.0 (chosen gnos front) apart parts.1.rows in
      let its = insert_within ts (chosen gnos rest) rec parts.0 left apart_there parts.2 good
      (free gnos log front rest rec have.closed split new) in
      let whole = leads-append ts (chosen gnos front) (rec ∷ chosen gnos rest) base parts.0 good.leaves parts.1 its in
      record {
        closed = λ earlier next behind e is. elim (among_pushed gnos rec.gno next.gno is) [
          | inl old ↦ are_chosen_more gnos (rec.gno ∷ []) earlier next (have.closed earlier next behind e old)
          | inr same ↦
              let split_ = one_split log front rest earlier behind rec next numbered split e same in
              let its_own : AreChosen gnos front next = subst (λ (r : Record). AreChosen gnos front r) split_.recs before in
              are_chosen_more gnos (rec.gno ∷ []) earlier next (subst (λ (l : List Record). AreChosen gnos l next) split_.fronts its_own)
        ];
        ran = ap (after ts base) (records_at_pushed log gnos rec.gno rec (record_at_number log front rest rec numbered split))
            ∙ after-push ts base left (records_at log gnos) rec have.ran ∙ good.applies;
        leads = subst (λ (l : List Record). Leads ts l base good.leaves) (sym one.with_it) whole;
      }

-- ---- all commits

module _ (ts : List Table) (base : Database) (log : List Record) (apart : NoValueTwice ts base) (numbered : AreNumbered 1 log) where
  abbrev Run : List ℕ → Type 0
  Run gnos = (left : Database) × HaveRun ts base log gnos left

  next_has_run : (gnos : List ℕ) (gno : ℕ) → MayCommit ts base log gnos gno → Run gnos → Run (gnos ++ gno ∷ [])
  next_has_run gnos gno may run =
      let same : may.rows ≡ run.0 = same_Some may.rows run.0 (sym may.rows_are ∙ run.1.ran) in
      let have : HaveRun ts base log gnos may.rows = subst (HaveRun ts base log gnos) (sym same) run.1 in
      let new : has_gno gnos may.rec.gno ≡ false = ap (has_gno gnos) may.number ∙ may.new in
      let one = one_has_run ts base log gnos may.rows may.front may.rest may.rec apart numbered have may.split new may.chosen_ may.good in
      (may.good.leaves, subst (λ (n : ℕ). HaveRun ts base log (gnos ++ n ∷ []) may.good.leaves) may.number one)

  rest_have_run : (front rest : List ℕ) → AreCommits ts base log (front ++ rest) → Run front → Run (front ++ rest)
  rest_have_run front [] are run = subst Run (sym (append-nil front)) run
  rest_have_run front (gno ∷ rest) are run =
      let regrouped : (front ++ gno ∷ []) ++ rest ≡ front ++ gno ∷ rest = append_assoc front (gno ∷ []) rest in
      let one_more = next_has_run front gno (are front gno rest refl) run in
      subst Run regrouped (rest_have_run (front ++ gno ∷ []) rest (subst (AreCommits ts base log) (sym regrouped) are) one_more)

  pub have_run : (gnos : List ℕ) → AreCommits ts base log gnos → (left : Database) × HaveRun ts base log gnos left
  have_run gnos are = rest_have_run [] gnos are (base, none_have_run ts base log)

pub ran_is_gapped : RanIsGapped
ran_is_gapped ts base log gnos apart numbered are =
    let run = have_run ts base log apart numbered gnos are in
    record {
      closed = run.1.closed;
      left = run.0;
      ran = run.1.ran;
      rows = run.1.leads.rows;
      apart = apart_after ts base run.0 (chosen gnos log) apart run.1.leads.rows;
    }
