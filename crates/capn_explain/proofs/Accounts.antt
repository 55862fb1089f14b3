-- Lemmas for `first_of` and `put_accepted`: the lines of an account do not depend on the allocator of its paths.
use Rattle.std.proofs.Common.{◌≡◌, ℕ, List, Some, Result, Ok, Err, IfOk, IsErr, refl, ap, ◌++◌, codes, ◌≤◌, Vec, arith}
use Rattle.capn_words.specs.declared.memory.Memory.{Memory}
use Rattle.capn_walk.specs.Limits.{Bounds}
use Rattle.capn_canon.specs.declared.form.Form.{Form}
use Rattle.capn_serve.specs.declared.fault.ServeFault.{ServeFault}
use Rattle.capn_serve.specs.declared.position.Position.{Position}
use Rattle.std.specs.Fmt.{decimal}
use Rattle.capn_diagnostics.specs.MessageTexts.{head_lines, lengths_line}
use Rattle.capn_mismatch.specs.CanonicalLines.{canonical_lines, mismatch_text}
use Rattle.capn_mismatch.specs.Mismatches.{HasMismatch, IsMismatch}
use Rattle.capn_mismatch.specs.declared.answer.Mismatch.{Mismatch}
use Rattle.capn_mismatch.specs.declared.answer.Mismatch.TheVariants as mismatches
use Rattle.capn_mismatch.specs.declared.canonical_lines.CanonicalLines.{CanonicalLines}
use Rattle.capn_mismatch.specs.declared.whose.Whose.{Whose}
use Rattle.capn_mismatch.specs.declared.whose.Whose.TheVariants as whose
use Rattle.capn_explain.specs.Accounts.{IsAccount, IsAccountText, account_text}
use Rattle.capn_explain.specs.Reports.{IsFirst, PutsAccount, PutsText, lines_first}
use Rattle.capn_explain.specs.declared.account.Account.{Account}
use Rattle.capn_explain.specs.declared.order.Order.{Order}

module _ {A : Type 0} where
  -- The vector `d`, with `Unit` as the type of its allocator.
  abbrev pub path : Vec ℕ A → Vec ℕ (Unit {0})
  path d = record {
    ptr = d.ptr;
    len = d.len;
    cap = d.cap;
    alloc = tt;
    items = d.items;
    ok = d.ok;
    small = d.small;
  }

  abbrev pub owner : Whose A → Whose (Unit {0})
  owner (whose.Pointer w) = whose.Pointer (path w)
  owner (whose.Tag w) = whose.Tag (path w)
  owner (whose.LastWord w) = whose.LastWord (path w)

  abbrev pub mismatch : Mismatch A → Mismatch (Unit {0})
  mismatch mismatches.Canonical = mismatches.Canonical
  mismatch (mismatches.Segments n) = mismatches.Segments n
  mismatch (mismatches.Capability k w) = mismatches.Capability k (path w)
  mismatch (mismatches.Word w is c o) = mismatches.Word w is c (owner o)
  mismatch (mismatches.After w is) = mismatches.After w is

  abbrev pub lines : CanonicalLines A → CanonicalLines (Unit {0})
  lines l = record { mismatch = mismatch l.mismatch; offset = l.offset; table = l.table; lengths = l.lengths }

  abbrev pub account : Account A → Account (Unit {0})
  account a = record { head = a.head; paid = a.paid; visits = a.visits; depth = a.depth; lines = lines a.lines }

  same_mismatch : (offset table : ℕ) (d : Mismatch A)
      → mismatch_text offset table d ≡ mismatch_text offset table (mismatch d)
  same_mismatch offset table mismatches.Canonical = refl
  same_mismatch offset table (mismatches.Segments n) = refl
  same_mismatch offset table (mismatches.Capability k w) = refl
  same_mismatch offset table (mismatches.Word w is c (whose.Pointer p)) = refl
  same_mismatch offset table (mismatches.Word w is c (whose.Tag p)) = refl
  same_mismatch offset table (mismatches.Word w is c (whose.LastWord p)) = refl
  same_mismatch offset table (mismatches.After w is) = refl

  same_lines : (l : CanonicalLines A) → canonical_lines l ≡ canonical_lines (lines l)
  same_lines l = λ i. codes "canonical: " ++ (same_mismatch l.offset l.table l.mismatch i ++ (codes "\n"
      ++ lengths_line l.lengths))

  same_account : (a : Account A) → account_text a ≡ account_text (account a)
  same_account a = λ i. head_lines a.head ++ (codes "accepted: paid " ++ (decimal a.paid ++ (codes " visits "
      ++ (decimal a.visits ++ (codes " depth " ++ (decimal a.depth ++ (codes "\n" ++ same_lines a.lines i)))))))

  is_mismatch : (message : List (List ℕ)) (limits : Bounds) (d : Mismatch A) → IsMismatch message limits d
      → IsMismatch message limits (mismatch d)
  is_mismatch message limits mismatches.Canonical is = is
  is_mismatch message limits (mismatches.Segments n) is = is
  is_mismatch message limits (mismatches.Capability k w) is = is
  is_mismatch message limits (mismatches.Word w x c (whose.Pointer p)) is = is
  is_mismatch message limits (mismatches.Word w x c (whose.Tag p)) is = is
  is_mismatch message limits (mismatches.Word w x c (whose.LastWord p)) is = is
  is_mismatch message limits (mismatches.After w x) is = is

  module _ (form : Form) (at : Position) (message : List (List ℕ)) (limits : Bounds) where
    pub account_told : (a : Account A) → IsAccount form at message limits a
        → IsAccountText form at message limits (account_text a)
    account_told a (m, measured, are, is) = (
      account a,
      (
        m,
        measured,
        record {
          value = are.value;
          is = are.is;
          mismatch = is_mismatch message limits a.lines.mismatch are.mismatch;
          lengths = are.lengths;
          offset_is = are.offset_is;
          table_is = are.table_is;
        },
        ap account is,
      ),
      same_account a,
    )

    pub first_kept : (r : Result (Account A) Memory) → at.index ≡ 0 → IfOk r (IsAccount form at message limits)
        → (IsErr r → HasMismatch message limits) → IsFirst form at message limits (lines_first (Some r))
    first_kept (Ok a) first found mismatched = (first, account_told a found)
    first_kept (Err memory) first found mismatched = (first, mismatched refl)

  pub puts_account : (order : Order) (at : Position) (message : List (List ℕ)) (a : Account A) (old new : List ℕ)
      (r : Result (Unit {0}) ServeFault) → IsAccount order.form at message order.limits a
      → PutsText (account_text a) old new r → PutsAccount order at message old new r
  puts_account order at message a old new (Ok u) is put =
      (account_text a, account_told order.form at message order.limits a is, put)
  puts_account order at message a old new (Err fault) is put = put

pub not_positive : (n : ℕ) → n ≤ 0 → n ≡ 0
not_positive n e = omega (arith, e)
