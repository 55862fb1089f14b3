use Rattle.std.proofs.Common.{◌≤◌, ◌+◌, ◌-◌, ◌*◌, ℕ, length, sym, subst, ◌∙◌, arith}
use Rattle.capn_commands.specs.PackRun.{IsSettled}
use Rattle.capn_commands.proofs.LastWord.{zeros_text}
use Rattle.capn_commands.proofs.pack_run.zeros_part.Goals as goal

pub overflow_sub-more : goal.overflow_sub-more
overflow_sub-more c =
    let z = zeros_text c.args.text.now c.args.words.now c.requires.chosen c.requires.some c.requires.zeros in
    omega (arith, z.in_text)

pub bounds-text-text : goal.bounds-text-text
bounds-text-text c =
    let z = zeros_text c.args.text.now c.args.words.now c.requires.chosen c.requires.some c.requires.zeros in
    omega (arith, z.in_text)

pub returns-then-more : goal.returns-then-more
returns-then-more c =
    let z = zeros_text c.args.text.now c.args.words.now c.requires.chosen c.requires.some c.requires.zeros in
    z.full (sym z.byte ∙ c.if-more.true)

pub overflow_sub-result : goal.overflow_sub-result
overflow_sub-result c =
    let z = zeros_text c.args.text.now c.args.words.now c.requires.chosen c.requires.some c.requires.zeros in
    z.in_text

pub overflow_sub-result-2 : goal.overflow_sub-result-2
overflow_sub-result-2 c =
    let z = zeros_text c.args.text.now c.args.words.now c.requires.chosen c.requires.some c.requires.zeros in
    subst (λ (k : ℕ). 8 * (1 + k) ≤ length c.args.words.now) (sym z.byte) z.in_words

pub returns : goal.returns
returns c =
    let t = c.args.text.now in
    let bs = c.args.words.now in
    let z = zeros_text t bs c.requires.chosen c.requires.some c.requires.zeros in
    let byte = c.type_inv.text (length t - 1) in
    subst (λ (k : ℕ). IsSettled t bs (length t - 2) (length bs - 8 * (1 + k))) (sym z.byte)
    (z.going (omega (arith, z.byte, byte, c.if-more.false)))
