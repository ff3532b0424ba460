-- Lasting says what request S-5 asks of a call; Calls and Exports ask it of every call by values and of every exported function, and CallLaws and ExportLaws show
-- it. LastingLaws takes the request's sentences from it, WordLaws is of a record's allowance, KeptLaws, MoveExportLaws and ParameterExportLaws of the functions.
pub mod Lasting
pub mod LastingLaws
pub mod Calls
pub mod CallLaws
pub mod WordLaws
pub mod Exports
pub mod KeptLaws
pub mod MoveExportLaws
pub mod ParameterExportLaws
pub mod ExportLaws
