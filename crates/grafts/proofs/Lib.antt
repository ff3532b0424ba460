-- The laws that the proof of grafts uses.
mod RegraftLaws
