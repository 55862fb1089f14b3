use Rattle.std.proofs.Common.{◌≡◌, [], ◌∷◌, ◌++◌, string_bytes, ap, ap₂, ◌∙◌, refl, ◌/◌, ◌%◌, append_assoc}
use Rattle.std.specs.Prelude.{slice_index, encode_utf8}
use Rattle.hex.specs.Hex.{encode_lower, lower_digits}
use Rattle.capn_value.proofs.Digits.{encode_lower-one, on_ok, digit-ascii, appended}
use Rattle.capn_value.proofs.text_lines.push_byte.Goals as goal

pub returns : goal.returns
returns g c =
    let written : c.encode_to_slice-done.new.output ≡ encode_lower (c.args.byte ∷ []) =
    on_ok c.encode_to_slice-done.result (c.encode_to_slice-done.ensures.fits.1 refl)
    c.encode_to_slice-done.ensures.written in
    let high : c.from.result ≡ slice_index lower_digits (c.args.byte / 16) = c.from.ensures
    ∙ ap (λ xs. slice_index xs 0) (written ∙ encode_lower-one c.args.byte) in
    let low : c.from-2.result ≡ slice_index lower_digits (c.args.byte % 16) = c.from-2.ensures
    ∙ ap (λ xs. slice_index xs 1) (written ∙ encode_lower-one c.args.byte) in
    let first = c.in_ok-push.ensures.ascii (rw high (digit-ascii (c.args.byte / 16))) in
    let second = c.push-2.ensures.ascii (rw low (digit-ascii (c.args.byte % 16))) in
    let both : (string_bytes c.push.new.self ++ encode_utf8 c.from-2.result)
    ≡ (string_bytes c.args.out.now ++ encode_lower (c.args.byte ∷ [])) =
    rw (encode_lower-one, ← high, ← low)
    (ap₂ (λ xs ys. xs ++ ys) (c.in_ok-push.ensures.bytes
    ∙ ap (λ xs. string_bytes c.args.out.now ++ xs) first) second
    ∙ append_assoc (string_bytes c.args.out.now) (c.from.result ∷ []) (c.from-2.result ∷ [])) in
    appended c.push-2.result _ _ _ _ c.push-2.ensures.bytes both
