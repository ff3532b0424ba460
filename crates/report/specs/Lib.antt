-- Report has the text of an answer, Few the bound under which the code measures it; ReportLaws say how long each text is, Rows are some texts.
pub mod Report
pub mod Few
pub mod ReportLaws
pub mod Rows
