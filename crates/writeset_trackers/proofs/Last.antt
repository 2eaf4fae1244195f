-- Each session's last entry.
use Rattle.std.proofs.Common.{◌≢◌, ◌∙◌, sym, ap, subst, ℕ, ◌+◌, ◌-◌, ◌≤◌, cond, List, [], ◌∷◌, length, set, get_or, replicate, reverse, inl, inr, arith}
use Rattle.std.proofs.lemmas.Bool.{cases_eq, eq-eqb, ne_eqb}
use Rattle.std.proofs.lemmas.List.{get_or-set_same, get_or-set_other, get_or-replicate}
use Rattle.log_index.specs.declared.Entry.{Entry}
use Rattle.log_index.specs.declared.Footprint.{Footprint}
use Rattle.tracker_trait.specs.History.{last_of}
use Rattle.tracker_trait.specs.Law.{stamped}
use Rattle.writeset_trackers.specs.Places.{AreLast}
use Rattle.writeset_trackers.proofs.Lists.{reversed}

pub none_last : (n : ℕ) → 256 ≤ n → AreLast [] (replicate n 0)
none_last n long session least greatest = get_or-replicate n (session - 1) 0 0 (omega arith)

pub one_more_last : (older : List Entry) (places : List ℕ) (entry : Entry) → 256 ≤ length places → 1 ≤ entry.session → entry.session ≤ 256 → AreLast older places →
    AreLast (entry ∷ older) (set places (entry.session - 1) entry.sequence)
one_more_last older places entry long least greatest are session first last = elim (cases_eq session entry.session) [
  | inl same ↦ ap (λ n. get_or (set places (entry.session - 1) entry.sequence) (n - 1) 0) same
      ∙ get_or-set_same places (entry.session - 1) entry.sequence 0 (omega (arith, long, least, greatest))
      ∙ sym (ap (λ b. cond b entry.sequence (last_of older session)) (eq-eqb entry.session session (sym same)))
  | inr apart ↦ get_or-set_other places (entry.session - 1) (session - 1) entry.sequence 0 (other apart)
      ∙ are session first last
      ∙ sym (ap (λ b. cond b entry.sequence (last_of older session)) (ne_eqb entry.session session (λ e. apart (sym e))))
]
  where
    other : session ≢ entry.session → session - 1 ≢ entry.session - 1
    other apart e = apart (omega (arith, e, least, first))

-- an entry of session 0 is none of theirs
pub none_more_last : (log : List Entry) (t : Footprint) (parent : ℕ) (places : List ℕ) → AreLast (reverse log) places → AreLast (reverse (stamped log t 0 parent)) places
none_more_last log t parent places are =
    subst (λ (l : List Entry). AreLast l places) (sym (reversed log _)) (λ session first last. are session first last ∙ sym (ap (λ b. cond b (length log + 1) (last_of (reverse log) session))
    (ne_eqb 0 session (λ e. omega (arith, e, first)))))
