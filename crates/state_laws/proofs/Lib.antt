-- The laws of the state memory.

-- lists, and numbers one after the other
pub mod Splits
pub mod NumberRuns
pub mod Each
pub mod Look
-- the part that both ends share: what holds it, how long it is, its rows, reading it back, the test, overlays, and the marks of all streams
pub mod FrontHolds
pub mod FrontLengths
pub mod RowsRead
pub mod FrontRead
pub mod RowsTest
pub mod FrontForms
pub mod FrontOverlay
pub mod FrontMarks
-- the decoder: its deletes, which row points at which, rows as entries, what holds its state, and the test
pub mod DeletesRead
pub mod Pointing
pub mod HeldRows
pub mod DecoderHolds
pub mod DecoderForms
pub mod DecoderLaws
-- the encoder: what stands behind the front, its horizons, rows as entries, what holds its state, the test, and overlays
pub mod Behind
pub mod Horizons
pub mod SentRows
pub mod EncoderHolds
pub mod EncoderForms
pub mod EncoderOverlay
pub mod EncoderLaws
