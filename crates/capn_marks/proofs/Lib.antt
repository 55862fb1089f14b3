mod AnnotatedTexts
mod Before
mod LedSteps
mod NameBlocks
mod WithoutMarks
