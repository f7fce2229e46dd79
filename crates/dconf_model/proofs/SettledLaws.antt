-- What a command that answered 0 leaves settled.
use Rattle.std.specs.Prelude.{◌≡◌, ◌≢◌, ◌⊎◌, ℕ, List, [], ◌∷◌, length, Option, Some, None, codes, refl}
use Rattle.std.proofs.Common.{ap, sym, ◌∙◌, subst, inl, inr, arith}
use Rattle.std.specs.List.{AllByRecursion}
use Rattle.dconf_model.specs.Profiles.{Database, database_file}
use Rattle.dconf_model.specs.Folders.{Event, IsSettled, read_content}
use Rattle.dconf_model.specs.Replacing.{Replaced, new_name}
use Rattle.dconf_model.specs.FaultTexts.{device_text}
use Rattle.dconf_model.specs.Outcomes.{Outcome, Output, Replacement, refused_output}
use Rattle.dconf_model.specs.Runs.{AnswersIn, Did, MayMake, RunEnding, device_output, output_of}
use Rattle.dconf_model.specs.Runs.RunEnding.{as_meant, device}
use Rattle.dconf_model.specs.Programs.{DoneIsSettled, LeavesSettled}
use Rattle.dconf_model.specs.Standings.{PutIsSettled}
use Rattle.dconf_model.proofs.FolderLaws.{counts_now, longer}
use Rattle.dconf_model.proofs.SameBytes.{same_or_not}

pub settled_by : (old new : List Event) (file bytes : List ℕ) → Replaced old new file bytes → LeavesSettled old new file
settled_by old new file bytes r = record {
  own = subst (IsSettled new file) (sym r.read) r.settled;
  others = λ name apart settled c left.
      settled c (r.any_moment.others name c apart.own apart.fresh (counts_now new (length old) name c (longer old new r.any_moment.grown) left))
      ∙ sym (r.others.others name apart.own apart.fresh);
}

refusal_is_not_0 : (why : List ℕ) (output : Output) → output ≡ refused_output why → output.status ≡ 0 → ⊥
refusal_is_not_0 why output e done = let same = sym (ap (λ (o : Output). o.status) e) ∙ done in absurd (omega (arith, same))

pub done_is_settled : DoneIsSettled
done_is_settled command input old new output r done = from r.answers
  where
    IsDone : Type 0
    IsDone = (new ≡ old) ⊎ ((name : List ℕ) × (bytes : List ℕ) × MayMake command input r.reads name bytes × (read_content new name ≡ Some bytes) × LeavesSettled old new name)

    by_change : (o : Outcome) → ((x : Replacement) → o.change ≡ Some x → MayMake command input r.reads x.name x.bytes) → (change : Option Replacement) → o.change ≡ change → (e : RunEnding) → Did change e old new → output ≡ output_of o e → IsDone
    by_change o make None e as_meant did is = inl did
    by_change o make None e device did is = absurd did
    by_change o make (Some x) e as_meant did is = inr (x.name, x.bytes, make x e, did.read, settled_by old new x.name x.bytes did)
    by_change o make (Some x) e device did is =
        absurd (refusal_is_not_0 (device_text x.name) output (is ∙ ap (device_output o.output) e) done)

    from : AnswersIn command input r.reads old new output → IsDone
    from (inr m) = absurd (refusal_is_not_0 (codes "Memory") output m.0 done)
    from (inl p) = by_change p.0.outcome (λ x e. (p.0.outcome, p.0.is, e)) p.0.outcome.change refl p.0.ending p.1 p.0.output_is

-- ---- the databases of a profile

pub put_is_settled : PutIsSettled
put_is_settled profile d ds out g old new may put before = record {
  profile_is = put.settled.others profile may.profile_is before.profile_is;
  user = one (database_file d) may.databases_are.0 before.user;
  others = all ds may.databases_are.1 before.others;
}
  where
    one : (name : List ℕ) → name ≢ new_name out → IsSettled old name (read_content old name) → IsSettled new name (read_content new name)
    one name fresh settled = elim (same_or_not name out) [
      | inl own ↦ subst (λ name. IsSettled new name (read_content new name)) (sym own) put.settled.own
      | inr other ↦ put.settled.others name (record { own = other; fresh = fresh }) settled
    ]

    all : (dbs : List Database) → AllByRecursion (λ other. database_file other ≢ new_name out) dbs →
        AllByRecursion (λ other. IsSettled old (database_file other) (read_content old (database_file other))) dbs →
        AllByRecursion (λ other. IsSettled new (database_file other) (read_content new (database_file other))) dbs
    all [] fresh settled = tt
    all (other ∷ dbs) fresh settled = (one (database_file other) fresh.0 settled.0, all dbs fresh.1 settled.1)
