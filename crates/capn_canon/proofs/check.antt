-- Lemmas on the one pass over the words: what it must find at each slot, and what it finds.
pub mod DueWords
pub mod DueSlots
pub mod DueObjects
pub mod DueLists
pub mod DueComposite
pub mod DueRoot
pub mod PassLeads
pub mod CanonicalSurvey
pub mod DepthOfCanonical
