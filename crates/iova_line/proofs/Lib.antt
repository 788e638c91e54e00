pub mod StepSpellings
