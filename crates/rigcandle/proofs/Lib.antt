-- The laws that the functions of this crate share.
pub mod AnswerLaws
pub mod AdmittedLaws
pub mod CaptureMarks
