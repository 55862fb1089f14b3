use Rattle.std.proofs.Common.{◌≡◌, inl, inr, List, Option, Some, None, IsSome, Result, Ok, Err, IfErr, IsErr, [], true}
use Rattle.std.proofs.Common.{IsErrAnd, map, refl, sym, ap, subst, ◌∙◌}
use Rattle.clap.specs.Words.{App, HasKind, HasMatchesOf, Row, Text, fault_of, is_simple_and_free, kind_of}
use Rattle.clap.specs.Words.{subcommand_of, takes}
use Rattle.clap.specs.declared.error.Error.{Error}
use Rattle.clap.specs.declared.error.ErrorKind.TheVariants as kinds
use Rattle.capn_args.specs.declared.usage.Usage.{Usage}
use Rattle.capn_args.specs.declared.invocation.Invocation.{Invocation}
use Rattle.capn_args.specs.Meaning.{MeansInvocation}
use Rattle.capn_args.specs.CommandLine.{program_line}
use Rattle.capn_args.specs.Usage.{NeedsMemory, error_of, IsReason, GivesInvocation}
use Rattle.capn_args.proofs.OneInvocation.{means_one_invocation}
use Rattle.capn_args.proofs.Entered.{entered, not_entered}
use Rattle.capn_args.proofs.command_line.invocation_of.Given.{Over}
use Rattle.capn_args.proofs.command_line.invocation_of.Goals.{in-Some, in-None}
use Rattle.capn_args.proofs.command_line.invocation_of.Goals as goal

pub returns-in-Some-named-clause-means : goal.returns-in-Some-named-clause-means
returns-in-Some-named-clause-means g c =
    let found = subst (λ (a : App). HasMatchesOf a (map g.S.AsStr.text c.args.words.now) c.in_ok-matches.matches)
    c.in_ok-tool.ensures c.in_ok-matches.ensures.matches in
    let rows = (found refl).1 in
    elim c.match-subcommand.branch [
      | in-Some w ↦
          let o = sym w.named-is ∙ c.in-Some-named.is in
          let means = rw o at w.named_invocation-named.ensures.means in
          let is = entered _ _ _ _ c.subcommand.result _ _ w.in-Some.is c.subcommand.ensures.name
          c.subcommand.ensures.rows in
          subst (λ (s : Option (Text × List Row)). MeansInvocation s c.in-Some-named.invocation)
          (sym (sym rows ∙ is)) means
      | in-None w ↦ absurd (let o = sym w.named-is ∙ c.in-Some-named.is in cc)
    ]

pub returns-in-Some-named-clause-only : goal.returns-in-Some-named-clause-only
returns-in-Some-named-clause-only g c taken invocation means =
    means_one_invocation _ c.in-Some-named.invocation invocation (returns-in-Some-named-clause-means g c) means

pub returns-in-Some-named-clause-passes : goal.returns-in-Some-named-clause-passes
returns-in-Some-named-clause-passes g c =
    subst (λ (a : App). is_simple_and_free a ≡ true → fault_of a (map g.S.AsStr.text c.args.words.now) ≡ [])
    c.in_ok-tool.ensures c.in_ok-matches.ensures.kinds refl

told_memory : (invocation : Invocation) (e : Error) (r : Result Invocation Usage) → kind_of e ≡ kinds.OutOfMemory
    → IsErr r × IsErrAnd r (λ usage. error_of usage ≡ e) → GivesInvocation invocation r
told_memory invocation e (Ok given) memory (is_err, is) = absurd cc
told_memory invocation e (Err usage) memory (is_err, is) = ap kind_of is ∙ memory

pub returns-in_err-matches-clause-only : goal.returns-in_err-matches-clause-only
returns-in_err-matches-clause-only g c taken invocation means =
    let passes = subst (λ (a : App). takes a (map g.S.AsStr.text c.args.words.now) ≡ true
    → kind_of c.in_err-matches.field-0.0 ≡ kinds.OutOfMemory) c.in_ok-tool.ensures c.in_err-matches.ensures.passes in
    told_memory invocation c.in_err-matches.field-0.0 _ (passes taken) c.from_residual-in_err-matches.ensures

-- Case: if an allocation was refused for the parser, `GivesInvocation` holds.
no_parser : (invocation : Invocation) (r : Result Invocation Usage) → IsErr r × IsErrAnd r NeedsMemory
    → GivesInvocation invocation r
no_parser invocation (Ok given) (is_err, is) = absurd cc
no_parser invocation (Err usage) (is_err, is) = is

pub returns-in_err-tool-clause-only : goal.returns-in_err-tool-clause-only
returns-in_err-tool-clause-only g c taken invocation means = no_parser invocation _ c.from_residual.ensures

not_missing : {A : Type 0} (invocation result : Option A) → invocation ≡ None → invocation ≡ result → IsSome result → ⊥
not_missing invocation None none is some = cc
not_missing invocation (Some x) none is some = cc

meaningless : (g : Over) (c : goal.Joined-matches-2 g) (invocation : Invocation)
    → MeansInvocation (subcommand_of program_line (map g.S.AsStr.text c.args.words.now)) invocation → ⊥
meaningless g c invocation means =
    let found = subst (λ (a : App). HasMatchesOf a (map g.S.AsStr.text c.args.words.now) c.in_ok-matches.matches)
    c.in_ok-tool.ensures c.in_ok-matches.ensures.matches in
    let rows = (found refl).1 in
    elim c.match-subcommand.branch [
      | in-Some w ↦
          let is = entered _ _ _ _ c.subcommand.result _ _ w.in-Some.is c.subcommand.ensures.name
          c.subcommand.ensures.rows in
          let said = subst (λ (s : Option (Text × List Row)). MeansInvocation s invocation) (sym rows ∙ is) means in
          not_missing _ _ c.in-None-named.is w.named-is (w.named_invocation-named.ensures.served invocation said)
      | in-None w ↦
          let is = not_entered _ _ _ c.subcommand.result _ w.in-None.is c.subcommand.ensures.rows in
          subst (λ (s : Option (Text × List Row)). MeansInvocation s invocation) (sym rows ∙ is) means
    ]

pub returns-clause-only : goal.returns-clause-only
returns-clause-only g c taken invocation means = absurd (meaningless g c invocation means)

told_reason : (words : List Text) (e : Error) (r : Result Invocation Usage) → HasKind (fault_of program_line words) e
    → IsErr r × IsErrAnd r (λ usage. error_of usage ≡ e) → IfErr r (λ usage. IsReason words (kind_of (error_of usage)))
told_reason words e (Ok given) kind (is_err, is) = tt
told_reason words e (Err usage) (inl memory) (is_err, is) = inl (ap kind_of is ∙ memory)
told_reason words e (Err usage) (inr among) (is_err, is) =
    subst (λ (x : Error). IsReason words (kind_of x)) (sym is) (inr (inl among))

pub returns-in_err-matches-clause-reason : goal.returns-in_err-matches-clause-reason
returns-in_err-matches-clause-reason g c =
    let kinds = subst (λ (a : App). is_simple_and_free a ≡ true
    → HasKind (fault_of a (map g.S.AsStr.text c.args.words.now)) c.in_err-matches.field-0.0) c.in_ok-tool.ensures
    c.in_err-matches.ensures.kinds in
    told_reason (map g.S.AsStr.text c.args.words.now) c.in_err-matches.field-0.0 _ (kinds refl)
    c.from_residual-in_err-matches.ensures

no_parser_reason : (words : List Text) (r : Result Invocation Usage) → IsErr r × IsErrAnd r NeedsMemory
    → IfErr r (λ usage. IsReason words (kind_of (error_of usage)))
no_parser_reason words (Ok given) (is_err, is) = tt
no_parser_reason words (Err usage) (is_err, is) = inl is

pub returns-in_err-tool-clause-reason : goal.returns-in_err-tool-clause-reason
returns-in_err-tool-clause-reason g c = no_parser_reason (map g.S.AsStr.text c.args.words.now) _ c.from_residual.ensures

pub returns-clause-reason : goal.returns-clause-reason
returns-clause-reason g c =
    let none = subst (λ (a : App). is_simple_and_free a ≡ true
    → fault_of a (map g.S.AsStr.text c.args.words.now) ≡ []) c.in_ok-tool.ensures c.in_ok-matches.ensures.kinds refl in
    elim c.meaningless.ensures [ inl memory ↦ inl memory | inr value ↦ inr (inr (none, value, meaningless g c)) ]
