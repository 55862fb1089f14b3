use Rattle.std.proofs.Common.{refl}
use Rattle.clap.specs.Words.{kind_of}
use Rattle.capn_args.specs.Usage.{error_of}
use Rattle.capn_tool.proofs.UnorderedEnds.{ends_help, ends_memory, ends_mistake, ends_version}
use Rattle.capn_tool.proofs.unordered.end_unordered.Goals as goal

pub returns-then-is_memory : goal.returns-then-is_memory
returns-then-is_memory g c =
    ends_memory (kind_of (error_of c.args.usage.now)) _ _ c.end.result (c.is_memory.ensures.0 c.if-is_memory.true)
    (refl, c.requires.writer_fine) c.end.ensures.says c.end.ensures.status

pub show_help-requires-clause-help : goal.show_help-requires-clause-help
show_help-requires-clause-help g c = c.is_help.ensures.0 c.if-is_help.true

pub returns-then-is_help : goal.returns-then-is_help
returns-then-is_help g c =
    let ended = c.end-then-is_help.ensures in
    ends_help (kind_of (error_of c.args.usage.now)) _ _ c.end-then-is_help.result c.show_help.result
    (c.is_help.ensures.0 c.if-is_help.true) c.show_help.ensures ended.says ended.status

pub returns-then-is_version : goal.returns-then-is_version
returns-then-is_version g c =
    let ended = c.end-then-is_version.ensures in
    ends_version (kind_of (error_of c.args.usage.now)) _ _ c.end-then-is_version.result c.show_version.result
    (c.is_version.ensures.0 c.if-is_version.true) c.show_version.ensures ended.says ended.status

pub returns : goal.returns
returns g c =
    ends_mistake (kind_of (error_of c.args.usage.now)) _ _ c.is_memory.result c.is_help.result c.is_version.result
    c.is_memory.ensures.1 c.if-is_memory.false c.is_help.ensures.1 c.if-is_help.false
    c.is_version.ensures.1 c.if-is_version.false (refl, c.requires.writer_fine) c.tell_mistake.ensures
