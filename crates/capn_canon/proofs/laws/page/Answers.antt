use Rattle.capn_canon.proofs.page.ThePage.{canonical_exactly_by_page, canon_is_the_page_form, answers_follow}
use Rattle.capn_canon.proofs.page.ThePage.{check_is_of_the_page, survey_is_of_the_page}
use Rattle.capn_canon.proofs.page.Denoted.{form-denotes}
use Rattle.capn_canon.proofs.laws.page.Goals as goal

pub returns-clause-exactly : goal.returns-clause-exactly
returns-clause-exactly c = canonical_exactly_by_page

pub returns-clause-denoted : goal.returns-clause-denoted
returns-clause-denoted c = form-denotes

pub returns-clause-only : goal.returns-clause-only
returns-clause-only c = canon_is_the_page_form

pub returns-clause-answers : goal.returns-clause-answers
returns-clause-answers c = answers_follow

pub returns-clause-check : goal.returns-clause-check
returns-clause-check c = check_is_of_the_page

pub returns-clause-survey : goal.returns-clause-survey
returns-clause-survey c = survey_is_of_the_page
