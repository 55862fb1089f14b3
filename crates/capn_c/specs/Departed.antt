-- The mismatch of a message with its canonical bytes, as C reads it. (Our own.)
use Rattle.std.specs.Prelude.{◌≡◌, ℕ, ◌*◌, List, length}
use Rattle.std.specs.declared.alloc.Global.{Global}
use Rattle.capn_walk.specs.Limits.{Bounds}
use Rattle.capn_walk.specs.declared.survey_answer.Surveyed.{Surveyed}
use Rattle.capn_canon.specs.SurveyedBytes.{Surveys}
use Rattle.capn_canon.specs.declared.form.Form.{Form}
use Rattle.capn_mismatch.specs.declared.answer.Mismatch.{Mismatch}
use Rattle.capn_mismatch.specs.declared.answer.Mismatch.TheVariants.{Canonical, Segments, Capability, Word, After}
use Rattle.capn_mismatch.specs.declared.whose.Whose.{Whose}
use Rattle.capn_mismatch.specs.declared.whose.Whose.TheVariants.{Pointer, Tag, LastWord}
use Rattle.capn_answers.specs.Mismatches.{IsMismatchIn, owner_path, path_of}
use Rattle.capn_abi.specs.StatusCodes.{answered}
use Rattle.capn_c.specs.PathNumbers.{ArePlaced}
use Rattle.capn_c.specs.declared.departed.CapnDeparted.{CapnDeparted}
use Rattle.capn_abi.specs.declared.report.CapnReport.{CapnReport}

module _ {A : Type 0} where
  -- The number for the role of a word that differs: a pointer, the tag word of a list, or the last word of a list.
  abbrev pub owner_number : Whose A → ℕ
  owner_number (Pointer path) = 1
  owner_number (Tag path) = 2
  owner_number (LastWord path) = 3

  -- A mismatch in the layout that C reads. A field without a meaning for the kind is 0.
  abbrev pub departed_of : Mismatch A → CapnDeparted
  departed_of Canonical =
      record { is = 0; canonical = 0; kind = 0; owner = 0; word = 0; count = 0; numbers = 0; zero = 0 }
  departed_of (Segments n) =
      record { is = 0; canonical = 0; kind = 1; owner = 0; word = 0; count = n; numbers = 0; zero = 0 }
  departed_of (Capability k path) = record {
    is = 0;
    canonical = 0;
    kind = 2;
    owner = 0;
    word = 0;
    count = k;
    numbers = length path.items;
    zero = 0;
  }
  departed_of (Word w is canonical whose) = record {
    is = is;
    canonical = canonical;
    kind = 3;
    owner = owner_number whose;
    word = w;
    count = 0;
    numbers = length (owner_path whose);
    zero = 0;
  }
  departed_of (After w is) =
      record { is = is; canonical = 0; kind = 4; owner = 0; word = w; count = 0; numbers = 0; zero = 0 }

-- `bs` are read as a message, and `departed` is the mismatch of that message with its canonical bytes. The path is at
-- the start of `new` if the path fits. The report has the length of the path in bytes, the price and the number of
-- visits.
pub record TellsMismatch (form : Form) (bs : List ℕ) (limits : Bounds) (departed : CapnDeparted)
    (report : CapnReport) (old new : List ℕ) : Type 0 where
  pub mismatch : Mismatch Global
  pub is : IsMismatchIn form bs limits mismatch
  pub told : departed ≡ departed_of mismatch
  pub placed : ArePlaced (path_of mismatch) old new
  pub survey : Surveyed
  pub surveys : Surveys form bs limits survey
  pub report_is : report ≡ answered (4 * length (path_of mismatch)) survey.paid survey.visits
